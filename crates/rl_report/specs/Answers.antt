-- What the reading of a report answers.
use Rattle.std.specs.Prelude.{◌≡◌, ℕ, List, [], Result, Ok, Err}
use Rattle.rl_text.specs.Lines.{Reading}
use Rattle.rl_model.specs.declared.network.NetworkPlan.{NetworkPlan}
use Rattle.rl_model.specs.declared.report.Report.{Report}
use Rattle.rl_report.specs.declared.refusal.ReportRefusal.{ReportRefusal}
use Rattle.rl_report.specs.declared.refusal.ReportRefusal.TheVariants.{Line, Long, NoMemory}
use Rattle.rl_report.specs.Grammar.{IsTextOf, IsFirstFault, IsLong}
use Rattle.rl_report.specs.Reading.{HasMoves}

-- the cause of each refusal: a text that is too long, and only of one that isn't its first fault. Want of memory has
-- no cause
abbrev pub IsCause : NetworkPlan → List ℕ → ReportRefusal → Type 0
IsCause net text (Line n) = (IsLong net text → ⊥) × IsFirstFault net text n
IsCause net text Long = IsLong net text
IsCause net text NoMemory = Unit {0}

-- the report whose text this is, or the cause of the refusal
abbrev pub ReadsAs : NetworkPlan → List ℕ → Result Report ReportRefusal → Type 0
ReadsAs net text (Ok report) = (IsLong net text → ⊥) × IsTextOf net report text
ReadsAs net text (Err refusal) = IsCause net text refusal

-- that report, or want of memory
abbrev pub ReadsBack : Report → Result Report ReportRefusal → Type 0
ReadsBack report (Ok read) = read ≡ report
ReadsBack report (Err (Line n)) = ⊥
ReadsBack report (Err Long) = ⊥
ReadsBack report (Err NoMemory) = Unit {0}

-- where the lines behind the second were all that was left, there are too many lines of moves, or memory ran out
abbrev pub TooMany : NetworkPlan → Reading → ReportRefusal → Type 0
TooMany net reading (Line n) = ⊥
TooMany net reading Long = (text : List ℕ) → HasMoves net text [] reading → IsLong net text
TooMany net reading NoMemory = Unit {0}

-- where this was read of a report, the refusal is its first fault, or memory ran out
abbrev pub IsFault : NetworkPlan → List ℕ → ReportRefusal → Type 0
IsFault net text (Line n) = IsFirstFault net text n
IsFault net text Long = ⊥
IsFault net text NoMemory = Unit {0}
