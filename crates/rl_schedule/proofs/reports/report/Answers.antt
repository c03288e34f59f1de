use Rattle.std.proofs.Common.{◌≤◌, ℕ, List, length}
use Rattle.rl_base.specs.Layout.{node_count}
use Rattle.rl_base.specs.declared.limits.TheConstants.{MAX_MOVES}
use Rattle.rl_model.specs.declared.report.Report.{Report}
use Rattle.rl_model.specs.Reports.{IsReportOf, IsRightReport}
use Rattle.rl_steps.specs.Turn.{driven}
use Rattle.rl_tables.specs.Starts.{layout_of}
use Rattle.rl_schedule.specs.Turns.{turns_of}
use Rattle.rl_schedule.specs.Driven.{schedule_report}
use Rattle.rl_schedule.proofs.Reporting.{FromStart, scheduled, few_scheduled, few_reported, of_value}
use Rattle.rl_schedule.proofs.reports.report.Goals as goal

pub report_of-requires-clause-few : goal.report_of-requires-clause-few
report_of-requires-clause-few c =
    few_scheduled c.args.line.now c.args.tries c.args.schedule.now c.in_ok-moves.moves c.drive.new.core
    (scheduled c.args.line.now c.args.tries c.args.schedule.now c.in_ok-core.core c.drive.new.core c.in_ok-moves.moves c.in_ok-core.ensures.start
    c.in_ok-core.ensures.line c.in_ok-core.ensures.tries c.in_ok-moves.ensures.ok)
    c.requires.fits

pub returns-clause-report : goal.returns-clause-report
returns-clause-report c =
    let nodes : List ℕ = turns_of (node_count (layout_of c.args.line.now)) c.args.schedule.now in
    let was : FromStart c.args.line.now c.args.tries nodes c.in_ok-moves.moves c.drive.new.core =
    scheduled c.args.line.now c.args.tries c.args.schedule.now c.in_ok-core.core c.drive.new.core c.in_ok-moves.moves c.in_ok-core.ensures.start
    c.in_ok-core.ensures.line c.in_ok-core.ensures.tries c.in_ok-moves.ensures.ok in
    c.report_of.ensures (driven c.args.line.now c.args.tries nodes).events was.run was.made (rw c.minds.ensures was.minds)

pub returns-clause-few : goal.returns-clause-few
returns-clause-few c =
    let nodes : List ℕ = turns_of (node_count (layout_of c.args.line.now)) c.args.schedule.now in
    let was : FromStart c.args.line.now c.args.tries nodes c.in_ok-moves.moves c.drive.new.core =
    scheduled c.args.line.now c.args.tries c.args.schedule.now c.in_ok-core.core c.drive.new.core c.in_ok-moves.moves c.in_ok-core.ensures.start
    c.in_ok-core.ensures.line c.in_ok-core.ensures.tries c.in_ok-moves.ensures.ok in
    of_value (λ (r : Report). length r.moves ≤ MAX_MOVES) c.report_of.result (schedule_report c.args.line.now c.args.tries nodes)
    (c.report_of.ensures (driven c.args.line.now c.args.tries nodes).events was.run was.made (rw c.minds.ensures was.minds))
    (few_reported c.args.line.now c.args.tries c.args.schedule.now c.requires.fits)

pub returns-clause-right : goal.returns-clause-right
returns-clause-right c =
    let nodes : List ℕ = turns_of (node_count (layout_of c.args.line.now)) c.args.schedule.now in
    let was : FromStart c.args.line.now c.args.tries nodes c.in_ok-moves.moves c.drive.new.core =
    scheduled c.args.line.now c.args.tries c.args.schedule.now c.in_ok-core.core c.drive.new.core c.in_ok-moves.moves c.in_ok-core.ensures.start
    c.in_ok-core.ensures.line c.in_ok-core.ensures.tries c.in_ok-moves.ensures.ok in
    λ net is tables_of.
    of_value (IsRightReport net) c.report_of.result (schedule_report c.args.line.now c.args.tries nodes)
    (c.report_of.ensures (driven c.args.line.now c.args.tries nodes).events was.run was.made (rw c.minds.ensures was.minds))
    (c.right_reports.ensures.right net c.args.line.now c.args.tries
    (driven c.args.line.now c.args.tries nodes).events is tables_of c.requires.some_tries c.requires.few_tries was.run)

pub returns-clause-of : goal.returns-clause-of
returns-clause-of c =
    let nodes : List ℕ = turns_of (node_count (layout_of c.args.line.now)) c.args.schedule.now in
    let was : FromStart c.args.line.now c.args.tries nodes c.in_ok-moves.moves c.drive.new.core =
    scheduled c.args.line.now c.args.tries c.args.schedule.now c.in_ok-core.core c.drive.new.core c.in_ok-moves.moves c.in_ok-core.ensures.start
    c.in_ok-core.ensures.line c.in_ok-core.ensures.tries c.in_ok-moves.ensures.ok in
    λ net is tables_of.
    of_value (IsReportOf net) c.report_of.result (schedule_report c.args.line.now c.args.tries nodes)
    (c.report_of.ensures (driven c.args.line.now c.args.tries nodes).events was.run was.made (rw c.minds.ensures was.minds))
    (c.right_reports.ensures.of net c.args.line.now c.args.tries
    (driven c.args.line.now c.args.tries nodes).events is tables_of c.requires.some_tries c.requires.few_tries was.run)
