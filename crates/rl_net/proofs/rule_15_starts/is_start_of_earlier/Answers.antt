use Rattle.std.proofs.Common.{false, take, slice_get, bytes_eq, arith}
use Rattle.std.specs.Option.{option_map_or}
use Rattle.std.proofs.lemmas.Grind.{common_steps}
use Rattle.rl_base.specs.declared.draft.DraftTrain.{DraftTrain}
use Rattle.rl_net.proofs.Passages.{list_any-map}
use Rattle.rl_net.proofs.rule_15_starts.is_start_of_earlier.Goals as goal

pub returns : goal.returns
returns c =
    let firsts = list_any-map (λ (t : DraftTrain). slice_get t.route 0) (λ first. option_map_or (λ n. bytes_eq n c.args.name.now) first false)
    (take c.args.i c.args.draft.now.trains) in
    grind (arith, common_steps, firsts)
