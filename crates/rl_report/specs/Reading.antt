-- How far a report was read.
use Rattle.std.specs.Prelude.{◌≡◌, ℕ, suc, ◌+◌, ◌≤◌, true, List, [], ◌∷◌, ◌++◌}
use Rattle.std.specs.Prelude.{length, drop, map, codes, decimal, slice_get, Option, Some, None, if◌then◌else◌}
use Rattle.rl_base.specs.Tries.{AreFewTries}
use Rattle.rl_base.specs.declared.limits.TheConstants.{MIN_TRIES}
use Rattle.rl_text.specs.Lines.{Line, Reading, lines_of}
use Rattle.rl_model.specs.declared.moves.Move.{Move}
use Rattle.rl_model.specs.declared.network.NetworkPlan.{NetworkPlan}
use Rattle.rl_model.specs.declared.report.Outcome.{Outcome}
use Rattle.rl_model.specs.declared.report.Report.{Report}
use Rattle.rl_model.specs.Moves.{IsMoveOf}
use Rattle.rl_model.specs.ReportText.{move_words}
use Rattle.rl_report.specs.Words.{IsCount, outcome_words}
use Rattle.rl_report.specs.Grammar.{IsMoveLine, IsOutcomeLine, whole_line}

-- the first two lines, and the last
abbrev pub head_line : Line
head_line = record { text = codes "relis report 1"; whole = true }

abbrev pub tries_line : ℕ → Line
tries_line tries = whole_line (codes "tries" ∷ decimal tries ∷ [])

abbrev pub end_line : Line
end_line = record { text = codes "end"; whole = true }

-- the lines of the moves, and those of the trains from number t on
abbrev pub move_lines : NetworkPlan → List Move → List Line
move_lines net moves = map (λ m. whole_line (move_words net m)) moves

abbrev pub train_lines : NetworkPlan → ℕ → List Outcome → List Line
train_lines net t [] = []
train_lines net t (o ∷ os) = whole_line (outcome_words net t o) ∷ train_lines net (suc t) os

-- the lines of a report but the last
abbrev pub front_lines : NetworkPlan → Report → List Line
front_lines net report =
    head_line ∷ tries_line report.tries ∷ move_lines net report.moves ++ train_lines net 0 report.outcomes

-- the text of the next line, if an LF ends it
abbrev pub next_text : List Line → Option (List ℕ)
next_text [] = None
next_text (line ∷ lines) = if line.whole then Some line.text else None

-- the next line is no move's, or not that of train t
abbrev pub HasNoMove : NetworkPlan → List Line → Type 0
HasNoMove net left = (text : List ℕ) (m : Move) → next_text left ≡ Some text → IsMoveLine net text m → ⊥

abbrev pub HasNoTrain : NetworkPlan → ℕ → List Line → Type 0
HasNoTrain net t left = (text : List ℕ) (o : Outcome) → next_text left ≡ Some text → IsOutcomeLine net text t o → ⊥

-- behind the second line of the text these moves were read
pub record HasMoves (net : NetworkPlan) (text : List ℕ) (moves : List Move) (reading : Reading) : Type 0 where
  pub of : (k : ℕ) (m : Move) → slice_get moves k ≡ Some m → IsMoveOf net m
  pub lines : drop 2 (lines_of text) ≡ move_lines net moves ++ reading.left
  pub count : reading.given + length reading.left ≡ length (lines_of text)

-- of a report these attempts, moves and outcomes were read, from the first train on
pub record HasRead (net : NetworkPlan) (text : List ℕ) (report : Report) (reading : Reading) : Type 0 where
  pub some_tries : MIN_TRIES ≤ report.tries
  pub few_tries : AreFewTries report.tries
  pub moves : (k : ℕ) (m : Move) → slice_get report.moves k ≡ Some m → IsMoveOf net m
  pub outcomes : (t : ℕ) (o : Outcome) → slice_get report.outcomes t ≡ Some o → IsCount o.made × IsCount o.refused
  pub trains : length report.outcomes ≤ length net.trains
  pub lines : lines_of text ≡ front_lines net report ++ reading.left
  pub count : reading.given + length reading.left ≡ length (lines_of text)
