use Rattle.std.proofs.Common.{◌≡◌}
use Rattle.rl_domain.specs.Rows.{Fits}
use Rattle.rl_tests_runs.proofs.worlds.round.Given as goal

abbrev pub invariant-loop-n : goal.invariant-loop-n
invariant-loop-n g l = (l.core.line ≡ l.initial.core.line) × Fits l.net l.world
