-- What the audit says of the text of a right report.
use Rattle.std.proofs.Common.{◌≡◌, ◌∙◌, ◌*◌, ◌≤◌, ℕ, List, Ok, Err, length, refl, ap, sym, subst, arith}
use Rattle.std.specs.List.{range_with_len}
use Rattle.std.proofs.lemmas.List.FromFn.{length-range_with_len}
use Rattle.rl_base.specs.declared.limits.TheConstants.{MAX_MOVES, MAX_TURNS}
use Rattle.rl_model.specs.declared.network.NetworkPlan.{NetworkPlan}
use Rattle.rl_model.specs.declared.report.Report.{Report}
use Rattle.rl_model.specs.Network.{IsNetwork}
use Rattle.rl_model.specs.Reports.{IsReportOf, IsRightReport}
use Rattle.rl_model.specs.ReportText.{report_text}
use Rattle.rl_report.proofs.Short.{report_not_long}
use Rattle.rl_audit.specs.declared.verdict.Verdict.TheVariants.{Safe, Bad}
use Rattle.rl_audit.specs.Verdicts.{IsVerdictOn}
use Rattle.rl_tables.specs.declared.table.Tables.{Tables}
use Rattle.rl_schedule.specs.declared.schedules.Item.{Item}
use Rattle.rl_schedule.specs.Driven.{schedule_report}
use Rattle.rl_schedule.specs.Readings.{nodes_of, schedule_of}
use Rattle.rl_schedule.specs.Turns.{turns_of}
use Rattle.rl_schedule.proofs.Pieces.{length_repeat}
use Rattle.relis.specs.Commands.{End, IsDrivenReport, IsDriveText, DrivesRoundsTo, DrivesScheduleTo, AuditsTo, nodes_in_rounds}
use Rattle.relis.specs.Judged.{IsCalledSafe}
use Rattle.relis.specs.Lines.{safe_line}
use Rattle.relis.specs.declared.status.Status.TheVariants as status
use Rattle.relis.proofs.OneEnd.{same_verdict, no_verdict}

-- a report that is right and in range
pub record IsSound (net : NetworkPlan) (report : Report) : Type 0 where
  pub formed : IsReportOf net report
  pub right : IsRightReport net report

safe_verdict : (net : NetworkPlan) (report : Report) → IsSound net report → IsVerdictOn net (report_text net report) (Safe (length report.moves))
safe_verdict net report sound =
    record { report = report; spelled = record { of = sound.formed; spelled = refl }; verdict_is = (refl, sound.right) }

same_safe : (n m : ℕ) → Safe n ≡ Safe m → n ≡ m
same_safe n m is = cc

only_safe : (net : NetworkPlan) (report : Report) (end : End) → IsNetwork net → IsSound net report →
    length report.moves ≤ MAX_MOVES → AuditsTo net (report_text net report) end → end ≡ Ok (safe_line (length report.moves))
only_safe net report (Ok text) is sound few audited =
    let text_of = report_text net report in
    let same = same_verdict net text_of (Safe audited.1.0) (Safe (length report.moves)) is audited.1.1 (safe_verdict net report sound) in
    ap (λ (t : List ℕ). Ok t) (audited.1.2 ∙ ap safe_line (same_safe audited.1.0 (length report.moves) same))
only_safe net report (Err (status.NotSafe line guard)) is sound few audited =
    absurd (let same = same_verdict net (report_text net report) (Bad line guard) (Safe (length report.moves)) is audited.1 (safe_verdict net report sound) in
    cc)
only_safe net report (Err (status.Refused n p)) is sound few audited =
    absurd (no_verdict net (report_text net report) (Safe (length report.moves)) n p (safe_verdict net report sound)
    (report_not_long net (report_text net report) report is (record { of = sound.formed; spelled = refl }) few) audited)
only_safe net report (Err status.Done) is sound few audited = absurd audited
only_safe net report (Err status.Usage) is sound few audited = absurd audited
only_safe net report (Err status.ReadFault) is sound few audited = absurd audited
only_safe net report (Err status.WriteFault) is sound few audited = absurd audited
only_safe net report (Err status.NoMemory) is sound few audited = absurd audited

-- the text of a sound report that isn't too long
pub called_safe : (net : NetworkPlan) (report : Report) → IsNetwork net → IsSound net report → length report.moves ≤ MAX_MOVES
    → IsCalledSafe net (report_text net report)
called_safe net report is sound few =
    record {
      report = report;
      text_is = refl;
      says = (
        report_not_long net (report_text net report) report is (record { of = sound.formed; spelled = refl }) few,
        (length report.moves, safe_verdict net report sound, refl),
      );
      only = λ end audited. only_safe net report end is sound few audited;
    }

-- a report has no more moves than there are turns
abbrev pub FewMoves : Type 0
FewMoves = (tables : Tables) (tries : ℕ) (nodes : List ℕ) → length (schedule_report tables tries nodes).moves ≤ length nodes

-- the text of so many turns as a schedule may have
drive_safe : FewMoves → (net : NetworkPlan) (tries : ℕ) (nodes text : List ℕ) → IsNetwork net → length nodes ≤ MAX_TURNS
    → IsDriveText net tries nodes text → IsCalledSafe net text
drive_safe few_of net tries nodes text is short printed =
    let report = printed.report in
    let driven : IsDrivenReport net tries nodes report = printed.driven in
    let bound : length (schedule_report driven.tables tries nodes).moves ≤ length nodes = few_of driven.tables tries nodes in
    let same : length report.moves ≤ length nodes = subst (λ (r : Report). length r.moves ≤ length nodes) (sym driven.driven) bound in
    let few : length report.moves ≤ MAX_MOVES = omega arith in
    subst (IsCalledSafe net) (sym printed.text_is)
    (called_safe net report is (record { formed = driven.formed; right = driven.right }) few)

-- so many rounds have so many turns for each node
length_rounds : (net : NetworkPlan) (rounds : ℕ) → length (nodes_in_rounds net rounds) ≡ rounds * nodes_of net
length_rounds net rounds =
    length_repeat (range_with_len 0 (nodes_of net)) rounds ∙ ap (λ n. rounds * n) (length-range_with_len 0 (nodes_of net))

pub safe_rounds : FewMoves → (net : NetworkPlan) (rounds tries : ℕ) (text : List ℕ) → IsNetwork net
    → DrivesRoundsTo net rounds tries (Ok text) → IsCalledSafe net text
safe_rounds few_of net rounds tries text is drives =
    drive_safe few_of net tries (nodes_in_rounds net rounds) text is
    (subst (λ (n : ℕ). n ≤ MAX_TURNS) (sym (length_rounds net rounds)) drives.0) drives.1

-- what a schedule's text says has no more turns than a schedule may have
abbrev pub FewTurns : Type 0
FewTurns = (net : NetworkPlan) (text : List ℕ) (items : List Item) → IsNetwork net → schedule_of net text ≡ Ok items
    → length (turns_of (nodes_of net) items) ≤ MAX_TURNS

pub safe_schedules : FewMoves → FewTurns → (net : NetworkPlan) (schedule : List ℕ) (tries : ℕ) (text : List ℕ) → IsNetwork net
    → DrivesScheduleTo net schedule tries (Ok text) → IsCalledSafe net text
safe_schedules few_of turns net schedule tries text is drives =
    drive_safe few_of net tries (turns_of (nodes_of net) drives.0) text is (turns net schedule drives.0 is drives.1) drives.2
