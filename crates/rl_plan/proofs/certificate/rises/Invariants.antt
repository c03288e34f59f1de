use Rattle.std.proofs.Common.{ℕ, ◌<◌}
use Rattle.rl_plan.specs.Rising.{RisesFrom}
use Rattle.rl_plan.proofs.certificate.rises.Given as goal

-- from the segments so far
abbrev pub invariant-loop-s : goal.invariant-loop-s
invariant-loop-s l = (r : ℕ) → r < l.s → RisesFrom l.net l.levels r
