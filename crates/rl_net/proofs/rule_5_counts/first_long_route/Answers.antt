use Rattle.std.proofs.Common.{length, arith, sym}
use Rattle.rl_base.specs.declared.place.Place.TheVariants.{TrainRoute}
use Rattle.rl_drafts.specs.Refusals.{breaks}
use Rattle.rl_net.proofs.Search.{tried_found}
use Rattle.rl_net.proofs.rule_5_counts.first_long_route.Goals as goal

pub returns-then-is_route_too_long : goal.returns-then-is_route_too_long
returns-then-is_route_too_long c =
    let d = c.args.draft.now in
    sym (tried_found (λ i. breaks d 5 (TrainRoute i)) (λ i. TrainRoute i) c.loop-i.i (length d.trains) c.loop-i.invariant (cc) (omega arith))
