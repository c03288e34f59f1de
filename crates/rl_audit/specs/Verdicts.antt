-- The verdict on a report: every guard holds, or the first that fails, of the moves in order and then of the outcomes.
use Rattle.std.specs.Prelude.{◌≡◌, ℕ, ◌+◌, ◌<◌, List, ◌∷◌, ◌++◌, length, slice_get, Some, Result, Ok, Err, ◌⊎◌}
use Rattle.rl_model.specs.declared.moves.Move.{Move}
use Rattle.rl_model.specs.declared.network.NetworkPlan.{NetworkPlan}
use Rattle.rl_model.specs.declared.report.Outcome.{Outcome}
use Rattle.rl_model.specs.declared.report.Report.{Report}
use Rattle.rl_model.specs.Moves.{guards, FirstFails}
use Rattle.rl_model.specs.Safety.{Guarded, world_after}
use Rattle.rl_model.specs.Reports.{outcome_guards, IsRightOutcome, IsRightReport}
use Rattle.rl_report.specs.declared.refusal.ReportRefusal.{ReportRefusal}
use Rattle.rl_report.specs.declared.refusal.ReportRefusal.TheVariants.{Line, Long, NoMemory}
use Rattle.rl_report.specs.Answers.{IsCause}
use Rattle.rl_report.specs.Grammar.{IsTextOf, IsLong}
use Rattle.rl_audit.specs.declared.verdict.Verdict.{Verdict}
use Rattle.rl_audit.specs.declared.verdict.Verdict.TheVariants.{Safe, Bad}

-- the guard is the first that fails at the move on the line, and those of every move before it hold. The first move
-- stands on line 3
pub record IsFirstBadMove (net : NetworkPlan) (moves : List Move) (line guard : ℕ) : Type 0 where
  pub before : List Move
  pub move : Move
  pub after : List Move
  pub split : moves ≡ before ++ move ∷ after
  pub guarded : Guarded net before
  pub fails : FirstFails guard (guards net (world_after net before) move)
  pub place : line ≡ length before + 3

-- the guard is the first that fails at the outcome on the line, and those of every move and of the outcomes before
-- it hold
pub record IsFirstBadOutcome (net : NetworkPlan) (report : Report) (line guard : ℕ) : Type 0 where
  pub guarded : Guarded net report.moves
  pub train : ℕ
  pub outcome : Outcome
  pub there : slice_get report.outcomes train ≡ Some outcome
  pub before : (t : ℕ) (o : Outcome) → t < train → slice_get report.outcomes t ≡ Some o
      → IsRightOutcome net report.tries report.moves t o
  pub fails : FirstFails guard (outcome_guards net report.tries report.moves train outcome)
  pub place : line ≡ length report.moves + train + 3

-- the verdict on the report
abbrev pub IsVerdict : NetworkPlan → Report → Verdict → Type 0
IsVerdict net report (Safe moves) = (moves ≡ length report.moves) × IsRightReport net report
IsVerdict net report (Bad line guard) =
    IsFirstBadMove net report.moves line guard ⊎ IsFirstBadOutcome net report line guard

-- the text is that of a report, and the verdict is the one on it
pub record IsVerdictOn (net : NetworkPlan) (text : List ℕ) (verdict : Verdict) : Type 0 where
  pub report : Report
  pub spelled : IsTextOf net report text
  pub verdict_is : IsVerdict net report verdict

-- the verdict on the report whose text this is, or the cause of the refusal
abbrev pub AuditsAs : NetworkPlan → List ℕ → Result Verdict ReportRefusal → Type 0
AuditsAs net text (Ok verdict) = (IsLong net text → ⊥) × IsVerdictOn net text verdict
AuditsAs net text (Err refusal) = IsCause net text refusal

-- that verdict, or want of memory
abbrev pub IsAnswer : Verdict → Result Verdict ReportRefusal → Type 0
IsAnswer verdict (Ok found) = found ≡ verdict
IsAnswer verdict (Err (Line n)) = ⊥
IsAnswer verdict (Err Long) = ⊥
IsAnswer verdict (Err NoMemory) = Unit {0}
