use Rattle.std.proofs.Common.{◌≡◌}
use Rattle.rl_core.specs.Reports.{outcomes_by}
use Rattle.rl_core.proofs.reports.outcomes_of.Given as goal

abbrev pub invariant-loop-t : goal.invariant-loop-t
invariant-loop-t l = l.outcomes ≡ outcomes_by l.line l.tries l.moves l.minds l.t
