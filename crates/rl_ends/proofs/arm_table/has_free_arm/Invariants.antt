use Rattle.std.proofs.Common.{◌≡◌, false, is_none}
use Rattle.rl_ends.specs.EndsDrafts.{named_arms, end_number}
use Rattle.rl_ends.specs.EndRules.{any_below}
use Rattle.rl_ends.proofs.arm_table.has_free_arm.Given as goal

abbrev pub invariant-loop-x : goal.invariant-loop-x
invariant-loop-x l = any_below (λ arm. is_none (end_number (named_arms l.draft) l.i arm)) l.x ≡ false
