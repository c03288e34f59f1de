use Rattle.std.proofs.Common.{◌≡◌, ◌++◌, drop}
use Rattle.rl_model.specs.ReportText.{outcome_lines}
use Rattle.rl_report.proofs.report.put_outcomes.Given as goal

abbrev pub invariant-loop-t : goal.invariant-loop-t
invariant-loop-t l = l.out ++ outcome_lines l.net l.t (drop l.t l.outcomes) ≡ l.initial.out ++ outcome_lines l.net 0 l.outcomes
