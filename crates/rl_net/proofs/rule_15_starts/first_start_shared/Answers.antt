use Rattle.std.proofs.Common.{length, arith, sym}
use Rattle.rl_drafts.specs.Search.{among_places_of}
use Rattle.rl_net.proofs.Search.{first_below_found}
use Rattle.rl_net.proofs.rule_15_starts.first_start_shared.Goals as goal

pub returns-in-Some : goal.returns-in-Some
returns-in-Some c =
    let d = c.args.draft.now in
    sym (first_below_found (among_places_of d 15) c.loop-i.i (length d.trains) c.in-Some.place c.loop-i.invariant (sym c.in-Some.ensures) (omega arith))
