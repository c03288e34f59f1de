use Rattle.std.proofs.Common.{length, arith, sym}
use Rattle.rl_base.specs.declared.place.Place.TheVariants.{Segment}
use Rattle.rl_drafts.specs.Refusals.{breaks}
use Rattle.rl_net.proofs.Search.{tried_found}
use Rattle.rl_net.proofs.rule_10_ends.first_ends.Goals as goal

pub returns-then-is_wrongly_ended : goal.returns-then-is_wrongly_ended
returns-then-is_wrongly_ended c =
    let d = c.args.draft.now in
    sym (tried_found (λ i. breaks d 10 (Segment i)) (λ i. Segment i) c.loop-i.i (length d.segments) c.loop-i.invariant (cc) (omega arith))
