use Rattle.std.proofs.Common.{◌≡◌}
use Rattle.rl_ends.specs.EndsDrafts.{arm_names}
use Rattle.rl_ends.proofs.joining.names_at.Given as goal

abbrev pub invariant-loop-x : goal.invariant-loop-x
invariant-loop-x l = l.names ≡ arm_names l.draft l.b l.x
