-- The grammar of a report, over the lines of its text: which lines are there, and which is the first that isn't as
-- it must be.
use Rattle.std.specs.Prelude.{◌≡◌, ℕ, ◌+◌, ◌-◌, ◌<◌, true, List, [], ◌∷◌, ◌++◌, length, slice_get, Some, ◌⊎◌}
use Rattle.std.specs.List.{join_with_byte}
use Rattle.rl_base.specs.declared.limits.TheConstants.{MAX_MOVES}
use Rattle.rl_text.specs.Lines.{Line, lines_of, longest_text}
use Rattle.rl_model.specs.declared.moves.Move.{Move}
use Rattle.rl_model.specs.declared.network.NetworkPlan.{NetworkPlan}
use Rattle.rl_model.specs.declared.report.Outcome.{Outcome}
use Rattle.rl_model.specs.declared.report.Report.{Report}
use Rattle.rl_model.specs.Moves.{IsMoveOf}
use Rattle.rl_model.specs.Reports.{IsReportOf}
use Rattle.rl_model.specs.ReportText.{move_words, move_line, outcome_line, report_text}
use Rattle.rl_report.specs.Words.{IsCount}

-- with an LF behind it the text is the line of a move of the network
pub record IsMoveLine (net : NetworkPlan) (text : List ℕ) (m : Move) : Type 0 where
  pub of : IsMoveOf net m
  pub line : text ++ 10 ∷ [] ≡ move_line net m

-- with an LF behind it the text is the line of train t with that outcome, whose numbers may stand there
pub record IsOutcomeLine (net : NetworkPlan) (text : List ℕ) (t : ℕ) (o : Outcome) : Type 0 where
  pub train : t < length net.trains
  pub made : IsCount o.made
  pub refused : IsCount o.refused
  pub line : text ++ 10 ∷ [] ≡ outcome_line net t o

-- the text is that of a report of the network
pub record IsTextOf (net : NetworkPlan) (report : Report) (text : List ℕ) : Type 0 where
  pub of : IsReportOf net report
  pub spelled : text ≡ report_text net report

-- the first k lines of the text are those of a report of the network
pub record BeginsReport (net : NetworkPlan) (text : List ℕ) (k : ℕ) : Type 0 where
  pub report : Report
  pub of : IsReportOf net report
  pub same : (i : ℕ) → i < k → slice_get (lines_of text) i ≡ slice_get (lines_of (report_text net report)) i

-- line n, counted from 1, is the first that isn't as it must be: a report begins with the lines before it, and none
-- with it besides. So does a line that is missing, or one too many
pub record IsFirstFault (net : NetworkPlan) (text : List ℕ) (n : ℕ) : Type 0 where
  pub before : BeginsReport net text (n - 1)
  pub fault : BeginsReport net text n → ⊥

-- a line that an LF ended, with these words
abbrev pub whole_line : List (List ℕ) → Line
whole_line words = record { text = join_with_byte 32 words; whole = true }

-- how many moves a report may have
abbrev pub most_moves : ℕ
most_moves = MAX_MOVES

-- the line at place i is that of a move
abbrev pub HasMoveAt : NetworkPlan → List ℕ → ℕ → Type 0
HasMoveAt net text i =
    (m : Move) × IsMoveOf net m × (slice_get (lines_of text) i ≡ Some (whole_line (move_words net m)))

-- the text has too many bytes, or more lines of moves behind its second line than a report may have
abbrev pub IsLong : NetworkPlan → List ℕ → Type 0
IsLong net text = (longest_text < length text) ⊎ ((i : ℕ) → i < most_moves + 1 → HasMoveAt net text (i + 2))
