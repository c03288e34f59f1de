use Rattle.std.proofs.Common.{◌≡◌, None}
use Rattle.rl_base.specs.declared.place.Place.TheVariants.{BoxArms}
use Rattle.rl_drafts.specs.Search.{broken_at, first_below}
use Rattle.rl_net.proofs.rules_7_to_9_arms.first_arm_count.Given as goal

abbrev pub invariant-loop-i : goal.invariant-loop-i
invariant-loop-i l = first_below (λ i. broken_at l.draft 7 (BoxArms i)) l.i ≡ None
