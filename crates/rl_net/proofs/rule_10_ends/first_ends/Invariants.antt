use Rattle.std.proofs.Common.{◌≡◌, None}
use Rattle.rl_base.specs.declared.place.Place.TheVariants.{Segment}
use Rattle.rl_drafts.specs.Search.{broken_at, first_below}
use Rattle.rl_net.proofs.rule_10_ends.first_ends.Given as goal

abbrev pub invariant-loop-i : goal.invariant-loop-i
invariant-loop-i l = first_below (λ i. broken_at l.draft 10 (Segment i)) l.i ≡ None
