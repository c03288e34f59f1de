use Rattle.std.proofs.Common.{◌≡◌, ℕ, ◌<◌, false}
use Rattle.rl_base.specs.declared.place.Place.TheVariants as place
use Rattle.rl_ends.specs.EndRules.{breaks}
use Rattle.rl_ends.proofs.arm_table.check_free_arms.Given as goal

abbrev pub invariant-loop-i : goal.invariant-loop-i
invariant-loop-i l = (j : ℕ) → j < l.i → breaks l.draft 25 (place.BoxItem j) ≡ false
