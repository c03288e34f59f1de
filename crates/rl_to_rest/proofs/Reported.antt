-- The report of a run after which every train rests.
use Rattle.std.proofs.Common.{◌≡◌, ℕ, List, Result, Ok, Err, IfOk}
use Rattle.rl_model.specs.declared.report.Report.{Report}
use Rattle.rl_record.specs.declared.event.Event.{Event}
use Rattle.rl_record.specs.Merge.{Falls}
use Rattle.rl_steps.specs.Run.{IsRun, state}
use Rattle.rl_safety.specs.Reports.{report_of}
use Rattle.rl_safety.specs.Rests.{AllTrainsRest}
use Rattle.rl_tables.specs.declared.table.Tables.{Tables}
use Rattle.rl_to_rest.specs.ToRest.{IsReportToRest}

pub reported : {E : Type 0} (tables : Tables) (tries : ℕ) (log : List Event) (r : Result Report E) → IsRun tables tries log → Falls log
    → AllTrainsRest tables (state tables tries log) → IfOk r (λ report. report ≡ report_of tables tries log)
    → IfOk r (IsReportToRest tables tries)
reported tables tries log (Ok report) run order rest is = record { events = log; run = run; order = order; rest = rest; report_is = is }
reported tables tries log (Err e) run order rest is = tt
