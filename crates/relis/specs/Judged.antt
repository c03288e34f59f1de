-- What `audit` says of a text that `drive` or `run` printed.
use Rattle.std.specs.Prelude.{◌≡◌, ℕ, List, length, Ok}
use Rattle.rl_model.specs.declared.network.NetworkPlan.{NetworkPlan}
use Rattle.rl_model.specs.declared.report.Report.{Report}
use Rattle.rl_model.specs.ReportText.{report_text}
use Rattle.relis.specs.Commands.{End, AuditsTo}
use Rattle.relis.specs.Lines.{safe_line}

-- it is that of a report, `audit` calls it safe with the number of its moves, and can say nothing else of it
pub record IsCalledSafe (net : NetworkPlan) (text : List ℕ) : Type 0 where
  pub report : Report
  pub text_is : text ≡ report_text net report
  pub says : AuditsTo net text (Ok (safe_line (length report.moves)))
  pub only : (end : End) → AuditsTo net text end → end ≡ Ok (safe_line (length report.moves))
