-- What each command makes of an accepted network and of the other file that it names: how its work ends.
use Rattle.std.specs.Prelude.{◌≡◌, ℕ, ◌*◌, ◌<◌, ◌≤◌, List, [], ◌∷◌, Result, Ok, Err}
use Rattle.std.specs.List.{repeat, range_with_len}
use Rattle.rl_base.specs.declared.limits.TheConstants.{DEFAULT_TRIES, MAX_TURNS}
use Rattle.rl_base.specs.declared.place.Place.{Place}
use Rattle.rl_model.specs.declared.network.NetworkPlan.{NetworkPlan}
use Rattle.rl_model.specs.declared.report.Report.{Report}
use Rattle.rl_model.specs.Reports.{IsReportOf, IsRightReport}
use Rattle.rl_model.specs.ReportText.{report_text}
use Rattle.rl_drafts.specs.Drafts.{network_of}
use Rattle.rl_schedule.specs.declared.refusal.ScheduleRefusal.{ScheduleRefusal}
use Rattle.rl_schedule.specs.declared.refusal.ScheduleRefusal.TheVariants as refusals
use Rattle.rl_schedule.specs.declared.schedules.Item.{Item}
use Rattle.rl_schedule.specs.Driven.{schedule_report}
use Rattle.rl_schedule.specs.Readings.{nodes_of, schedule_of}
use Rattle.rl_schedule.specs.Refusals.{refusal_number, refusal_place}
use Rattle.rl_schedule.specs.Turns.{turns_of}
use Rattle.rl_tables.specs.declared.table.Tables.{Tables}
use Rattle.rl_tables.specs.Tables.{AreTablesOf}
use Rattle.rl_tables.specs.TablesText.{tables_text}
use Rattle.rl_report.specs.Grammar.{IsFirstFault, IsLong}
use Rattle.rl_report.specs.Refusals as reports
use Rattle.rl_report.specs.declared.refusal.ReportRefusal.TheVariants.{Line, Long}
use Rattle.rl_audit.specs.declared.verdict.Verdict.TheVariants.{Safe, Bad}
use Rattle.rl_audit.specs.Verdicts.{IsVerdictOn}
use Rattle.rl_make.specs.Ring.{ring}
use Rattle.rl_cli.specs.declared.order.Order.{Order}
use Rattle.rl_cli.specs.declared.order.Order.TheVariants.{Check, Tables as TablesOrder, Rounds, Drive, Run, Audit, Make}
use Rattle.relis.specs.declared.made.TheConstants.{MADE_ROUNDS}
use Rattle.relis.specs.Lines.{accepted_line, safe_line}
use Rattle.relis.specs.Summaries.{make_text}
use Rattle.relis.specs.Networks.{IsAcceptedAs, IsRefusedAs}
use Rattle.relis.specs.Runs.{IsRunText}
use Rattle.relis.specs.declared.status.Status.{Status}
use Rattle.relis.specs.declared.status.Status.TheVariants as status

-- with the command's own text, or with the status that it has in place of one
abbrev pub End : Type 0
End = Result (List ℕ) Status

-- `check` says how large the network is
abbrev pub ChecksTo : NetworkPlan → End → Type 0
ChecksTo net (Ok text) = text ≡ accepted_line net
ChecksTo net (Err answer) = ⊥

-- the text is that of the network's tables
pub record IsTablesText (net : NetworkPlan) (text : List ℕ) : Type 0 where
  pub tables : Tables
  pub of_network : AreTablesOf net tables
  pub text_is : text ≡ tables_text net tables

-- `tables` prints them
abbrev pub PrintsTo : NetworkPlan → End → Type 0
PrintsTo net (Ok text) = IsTablesText net text
PrintsTo net (Err answer) = ⊥

-- the report is that of the turns of these nodes on the network, from its start, and it is right
pub record IsDrivenReport (net : NetworkPlan) (tries : ℕ) (nodes : List ℕ) (report : Report) : Type 0 where
  pub tables : Tables
  pub of_network : AreTablesOf net tables
  pub driven : report ≡ schedule_report tables tries nodes
  pub formed : IsReportOf net report
  pub right : IsRightReport net report

-- the text is that of this report
pub record IsDriveText (net : NetworkPlan) (tries : ℕ) (nodes : List ℕ) (text : List ℕ) : Type 0 where
  pub report : Report
  pub driven : IsDrivenReport net tries nodes report
  pub text_is : text ≡ report_text net report

-- the nodes of the turns of so many rounds
abbrev pub nodes_in_rounds : NetworkPlan → ℕ → List ℕ
nodes_in_rounds net rounds = repeat rounds (range_with_len 0 (nodes_of net))

-- `drive` prints the report of so many rounds, unless they have too many turns
abbrev pub DrivesRoundsTo : NetworkPlan → (rounds tries : ℕ) → End → Type 0
DrivesRoundsTo net rounds tries (Ok text) =
    (rounds * nodes_of net ≤ MAX_TURNS) × IsDriveText net tries (nodes_in_rounds net rounds) text
DrivesRoundsTo net rounds tries (Err (status.Refused number place)) =
    (MAX_TURNS < rounds * nodes_of net) × (number ≡ refusal_number (refusals.TooMany 1))
    × (place ≡ refusal_place (refusals.TooMany 1))
DrivesRoundsTo net rounds tries (Err answer) = ⊥

-- the refusal is that of the text; want of memory says nothing of it
abbrev pub MayRefuse : NetworkPlan → List ℕ → ScheduleRefusal → Type 0
MayRefuse net text refusals.NoMemory = Unit {0}
MayRefuse net text refusal = schedule_of net text ≡ Err refusal

-- or that of the turns of a schedule, unless that is refused
abbrev pub DrivesScheduleTo : NetworkPlan → (schedule : List ℕ) → (tries : ℕ) → End → Type 0
DrivesScheduleTo net schedule tries (Ok text) =
    (items : List Item) × (schedule_of net schedule ≡ Ok items)
    × IsDriveText net tries (turns_of (nodes_of net) items) text
DrivesScheduleTo net schedule tries (Err (status.Refused number place)) =
    (refusal : ScheduleRefusal) × (schedule_of net schedule ≡ Err refusal)
    × (number ≡ refusal_number refusal) × (place ≡ refusal_place refusal)
DrivesScheduleTo net schedule tries (Err answer) = ⊥

-- `run` prints the report of a run to rest. Many are possible, since nothing says in which order the nodes work
abbrev pub RunsTo : NetworkPlan → (tries : ℕ) → End → Type 0
RunsTo net tries (Ok text) = IsRunText net tries text
RunsTo net tries (Err answer) = ⊥

-- the number and the place are those of the refusal of a report
pub data IsReportRefusal (net : NetworkPlan) (report : List ℕ) : ℕ → Place → Type 0 where
  faulty : (n : ℕ) → (IsLong net report → ⊥) → IsFirstFault net report n →
      IsReportRefusal net report (reports.refusal_number (Line n)) (reports.refusal_place (Line n))
  long : IsLong net report → IsReportRefusal net report (reports.refusal_number Long) (reports.refusal_place Long)

-- `audit` says how many moves a right report has, or the first line and the first guard of it that fail
abbrev pub AuditsTo : NetworkPlan → List ℕ → End → Type 0
AuditsTo net report (Ok text) =
    (IsLong net report → ⊥) × ((moves : ℕ) × IsVerdictOn net report (Safe moves) × (text ≡ safe_line moves))
AuditsTo net report (Err (status.NotSafe line guard)) =
    (IsLong net report → ⊥) × IsVerdictOn net report (Bad line guard)
AuditsTo net report (Err (status.Refused number place)) = IsReportRefusal net report number place
AuditsTo net report (Err answer) = ⊥

-- the text is the summary of the report of 3,900 rounds on the network of the ring of n stations
pub record IsMakeText (n : ℕ) (text : List ℕ) : Type 0 where
  pub report : Report
  pub driven : IsDrivenReport (network_of (ring n)) DEFAULT_TRIES
      (nodes_in_rounds (network_of (ring n)) MADE_ROUNDS) report
  pub text_is : text ≡ make_text n (network_of (ring n)) report

-- `make` prints it
abbrev pub MakesTo : ℕ → End → Type 0
MakesTo n (Ok text) = IsMakeText n text
MakesTo n (Err answer) = ⊥

-- the work of an order on a network and on the bytes of the other files that it names
abbrev pub IsWorkOn : Order → NetworkPlan → List (List ℕ) → End → Type 0
IsWorkOn (Check name) net others end = ChecksTo net end
IsWorkOn (TablesOrder name) net others end = PrintsTo net end
IsWorkOn (Rounds name rounds tries) net others end = DrivesRoundsTo net rounds tries end
IsWorkOn (Drive name schedule tries) net (bytes ∷ others) end = DrivesScheduleTo net bytes tries end
IsWorkOn (Run name tries workers round) net others end = RunsTo net tries end
IsWorkOn (Audit name report) net (bytes ∷ others) end = AuditsTo net bytes end
IsWorkOn order net others end = ⊥

-- and on a network text: a text that is refused ends the work of each order so, before any other file is read
pub data IsWorkOnText (order : Order) (bytes : List ℕ) (others : List (List ℕ)) : End → Type 0 where
  refused : (number : ℕ) (place : Place) → IsRefusedAs bytes number place
      → IsWorkOnText order bytes others (Err (status.Refused number place))
  accepted : (net : NetworkPlan) (end : End) → IsAcceptedAs bytes net → IsWorkOn order net others end
      → IsWorkOnText order bytes others end

-- the work of an order that names no file
abbrev pub IsWorkAlone : Order → End → Type 0
IsWorkAlone (Make n) end = MakesTo n end
IsWorkAlone order end = ⊥

-- the work of an order on the bytes of all files that it names, of which the first is a network text
abbrev pub IsWork : Order → List (List ℕ) → End → Type 0
IsWork order [] end = IsWorkAlone order end
IsWork order (bytes ∷ others) end = IsWorkOnText order bytes others end
