-- What `run` prints: the report of some run to rest, whatever the order in which the nodes worked.
use Rattle.std.specs.Prelude.{◌≡◌, ℕ, List}
use Rattle.rl_model.specs.declared.network.NetworkPlan.{NetworkPlan}
use Rattle.rl_model.specs.declared.report.Report.{Report}
use Rattle.rl_model.specs.Reports.{IsReportOf, IsRightReport}
use Rattle.rl_model.specs.ReportText.{report_text}
use Rattle.rl_tables.specs.declared.table.Tables.{Tables}
use Rattle.rl_tables.specs.Tables.{AreTablesOf}
use Rattle.rl_to_rest.specs.ToRest.{IsReportToRest, AreEnded}

-- the report is that of some run to rest on the network, from its start; it is right, and no train is underway
pub record IsRunReport (net : NetworkPlan) (tries : ℕ) (report : Report) : Type 0 where
  pub tables : Tables
  pub of_network : AreTablesOf net tables
  pub to_rest : IsReportToRest tables tries report
  pub formed : IsReportOf net report
  pub right : IsRightReport net report
  pub ended : AreEnded report.outcomes

-- the text is that of this report
pub record IsRunText (net : NetworkPlan) (tries : ℕ) (text : List ℕ) : Type 0 where
  pub report : Report
  pub of_run : IsRunReport net tries report
  pub text_is : text ≡ report_text net report
