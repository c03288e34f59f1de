use Rattle.std.proofs.Common.{◌≡◌, ℕ, ◌<◌, false}
use Rattle.rl_ends.specs.EndRules.{end_breaks}
use Rattle.rl_ends.proofs.rules_21_to_23.check_arms.Given as goal

abbrev pub invariant-loop-k : goal.invariant-loop-k
invariant-loop-k l = (j : ℕ) → j < l.k → end_breaks l.draft 23 j ≡ false
