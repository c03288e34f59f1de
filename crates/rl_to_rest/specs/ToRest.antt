-- The report of a run in which every train comes to rest, whatever the order in which the nodes worked.
use Rattle.std.specs.Prelude.{◌≡◌, ℕ, ◌⊎◌, List, slice_get, Some}
use Rattle.rl_model.specs.declared.report.Fate.TheVariants.{Arrived, Spent}
use Rattle.rl_model.specs.declared.report.Outcome.{Outcome}
use Rattle.rl_model.specs.declared.report.Report.{Report}
use Rattle.rl_record.specs.declared.event.Event.{Event}
use Rattle.rl_record.specs.Merge.{Falls}
use Rattle.rl_tables.specs.declared.table.Tables.{Tables}
use Rattle.rl_steps.specs.Run.{IsRun, state}
use Rattle.rl_safety.specs.Reports.{report_of}
use Rattle.rl_safety.specs.Rests.{AllTrainsRest}

-- The report is that of a run of events from the start: each is the step of its node where it stands, they stand in the
-- order of their stamps, and of their nodes where stamps are equal, and after the last of them every train rests
pub record IsReportToRest (tables : Tables) (tries : ℕ) (report : Report) : Type 0 where
  pub events : List Event
  pub run : IsRun tables tries events
  pub order : Falls events
  pub rest : AllTrainsRest tables (state tables tries events)
  pub report_is : report ≡ report_of tables tries events

-- every train has arrived, or has spent its attempts
abbrev pub AreEnded : List Outcome → Type 0
AreEnded outcomes = (t : ℕ) (o : Outcome) → slice_get outcomes t ≡ Some o → (o.fate ≡ Arrived) ⊎ (o.fate ≡ Spent)
