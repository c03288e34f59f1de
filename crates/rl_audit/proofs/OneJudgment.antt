-- To read a report and to judge it is to audit its text.
use Rattle.std.proofs.Common.{◌≡◌, ◌≢◌, ℕ, ◌≤◌, List, [], ◌∷◌, ◌++◌, length, drop, Result, Ok, Err, ◌⊎◌, inl, inr, refl, sym, ap, ◌∙◌, subst, append_assoc, length-append}
use Rattle.std.proofs.lemmas.Bool.{cases_lt}
use Rattle.rl_text.specs.Lines.{Line, Reading, lines_of}
use Rattle.rl_model.specs.declared.network.NetworkPlan.{NetworkPlan}
use Rattle.rl_model.specs.declared.report.Report.{Report}
use Rattle.rl_model.specs.Network.{IsNetwork}
use Rattle.rl_report.specs.declared.refusal.ReportRefusal.{ReportRefusal}
use Rattle.rl_report.specs.declared.refusal.ReportRefusal.TheVariants as refusal
use Rattle.rl_report.specs.Answers.{ReadsAs}
use Rattle.rl_report.specs.Grammar.{IsTextOf, IsFirstFault, IsLong, most_moves}
use Rattle.rl_report.specs.Reading.{head_line, tries_line, end_line, move_lines, train_lines, HasMoves}
use Rattle.rl_report.proofs.LinesOf.{lines_of-report}
use Rattle.rl_report.proofs.OneReading.{one_report, no_fault, one_fault}
use Rattle.rl_report.proofs.Steps.{long_from_moves}
use Rattle.rl_audit.specs.declared.verdict.Verdict.{Verdict}
use Rattle.rl_audit.specs.Verdicts.{IsVerdict, AuditsAs, IsAnswer}
use Rattle.rl_audit.proofs.OneVerdict.{only_verdict}

-- what an audit answers of the text of a report of so many moves
pub answers : (net : NetworkPlan) (text : List ℕ) (report : Report) (verdict : Verdict) (result : Result Verdict ReportRefusal)
    → ((other : Report) → IsTextOf net other text → other ≡ report) → ((n : ℕ) → IsFirstFault net text n → ⊥) → (IsLong net text → ⊥)
    → AuditsAs net text result → IsVerdict net report verdict → IsAnswer verdict result
answers net text report verdict (Ok found) one none short audits is =
    let on = audits.1 in
    only_verdict net report found verdict (subst (λ (r : Report). IsVerdict net r found) (one on.report on.spelled) on.verdict_is) is
answers net text report verdict (Err (refusal.Line n)) one none short audits is = none n audits.1
answers net text report verdict (Err refusal.Long) one none short audits is = short audits
answers net text report verdict (Err refusal.NoMemory) one none short audits is = tt

pub same_verdict : (net : NetworkPlan) (text : List ℕ) (report : Report) (verdict : Verdict) (answer : Result Verdict ReportRefusal) → IsNetwork net
    → ReadsAs net text (Ok report) → IsVerdict net report verdict → AuditsAs net text answer → IsAnswer verdict answer
same_verdict net text report verdict answer network reads is audits =
    answers net text report verdict answer (λ other of. one_report net text other report network of reads.1) (λ n fault. no_fault net text report n reads.1 fault)
    reads.0 audits is

-- behind the second line the text of a report has the lines of its moves
has_moves : (net : NetworkPlan) (text : List ℕ) (report : Report) → IsNetwork net → IsTextOf net report text
    → (reading : Reading) × HasMoves net text report.moves reading
has_moves net text report network is =
    let moves = move_lines net report.moves in
    let trains = train_lines net 0 report.outcomes in
    let left : List Line = trains ++ end_line ∷ [] in
    let before : List Line = head_line ∷ tries_line report.tries ∷ moves in
    let lines : lines_of text ≡ before ++ left =
    ap lines_of is.spelled ∙ lines_of-report net report network is.of
    ∙ ap (λ (ls : List Line). head_line ∷ tries_line report.tries ∷ ls) (append_assoc moves trains (end_line ∷ [])) in (
      record { given = length before; left = left },
      record {
        of = is.of.moves;
        lines = ap (drop 2) lines;
        count = sym (ap length lines ∙ length-append before left);
      },
    )

pub few_moves : (net : NetworkPlan) (text : List ℕ) (report : Report) → IsNetwork net → ReadsAs net text (Ok report) → length report.moves ≤ most_moves
few_moves net text report network reads =
    elim (cases_lt most_moves (length report.moves)) [
      | inl many ↦ let read = has_moves net text report network reads.1 in absurd (reads.0 (long_from_moves net text report.moves read.0 read.1 many))
      | inr few ↦ few
    ]

pub same_refusal : (net : NetworkPlan) (text : List ℕ) (cause : ReportRefusal) (answer : Result Verdict ReportRefusal) → IsNetwork net
    → ReadsAs net text (Err cause) → cause ≢ refusal.NoMemory → AuditsAs net text answer → (answer ≡ Err cause) ⊎ (answer ≡ Err refusal.NoMemory)
same_refusal net text (refusal.Line n) (Ok found) network reads other audits =
    let on = audits.1 in absurd (no_fault net text on.report n on.spelled reads.1)
same_refusal net text (refusal.Line n) (Err (refusal.Line k)) network reads other audits =
    let same = one_fault net text k n audits.1 reads.1 in inl (ap (λ (m : ℕ). Err (refusal.Line m)) same)
same_refusal net text (refusal.Line n) (Err refusal.Long) network reads other audits = absurd (reads.0 audits)
same_refusal net text (refusal.Line n) (Err refusal.NoMemory) network reads other audits = inr refl
same_refusal net text refusal.Long (Ok found) network reads other audits = absurd (audits.0 reads)
same_refusal net text refusal.Long (Err (refusal.Line k)) network reads other audits = absurd (audits.0 reads)
same_refusal net text refusal.Long (Err refusal.Long) network reads other audits = inl refl
same_refusal net text refusal.Long (Err refusal.NoMemory) network reads other audits = inr refl
same_refusal net text refusal.NoMemory answer network reads other audits = absurd (other refl)
