use Rattle.std.proofs.Common.{◌≡◌, ◌≤◌, length}
use Rattle.rl_domain.specs.Rows.{Fits}
use Rattle.rl_tests_runs.proofs.worlds.drive.Given as goal

abbrev pub invariant-rounds : goal.invariant-rounds
invariant-rounds g l = (l.core.line ≡ l.initial.core.line) × Fits l.net l.world × (l.seen ≤ length l.texts)
