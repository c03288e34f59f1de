-- The text of a board, line by line: the counts at the start and after each move, each segment in the end, and the peak.
use Rattle.std.specs.Prelude.{◌≡◌, ℕ, zero, suc, ◌+◌, ◌<◌, ◌≤◌, List, [], ◌∷◌, ◌++◌, length, take, Option, Some, None, codes, decimal}
use Rattle.rl_model.specs.declared.moves.Move.{Move}
use Rattle.rl_model.specs.declared.network.NetworkPlan.{NetworkPlan}
use Rattle.rl_model.specs.declared.report.Report.{Report}
use Rattle.rl_model.specs.Network.{segment_name, train_name}
use Rattle.rl_model.specs.ReportText.{line_of}
use Rattle.rl_model.specs.Safety.{world_after}
use Rattle.rl_model.specs.World.{World, start}
use Rattle.rl_board.specs.Below.{join_below}
use Rattle.rl_board.specs.Boards.{occupant, low_holder, high_holder, occupied_in, reserved_in, locked_in}

-- a count behind its word
unfoldable pub count_text : List ℕ → ℕ → List ℕ
count_text word n = 32 ∷ word ++ 32 ∷ decimal n

-- the three counts, and the end of the line
unfoldable pub counts_text : NetworkPlan → World → List ℕ
counts_text net w =
    count_text (codes "occupied") (occupied_in net w)
    ++ count_text (codes "reserved") (reserved_in net w)
    ++ count_text (codes "locked") (locked_in net w)
    ++ 10 ∷ []

abbrev pub start_line : NetworkPlan → List ℕ
start_line net = codes "start" ++ counts_text net (start net)

-- the world after the first k moves
abbrev pub world_at : NetworkPlan → List Move → ℕ → World
world_at net moves k = world_after net (take k moves)

-- the line after move k, counted from 0, which stands on line k + 3 of the report
abbrev pub after_line : NetworkPlan → List Move → ℕ → List ℕ
after_line net moves k = codes "after" ++ 32 ∷ decimal (k + 3) ++ counts_text net (world_at net moves (k + 1))

-- the name of the train, or a star for none
abbrev pub train_or_star : NetworkPlan → Option ℕ → List ℕ
train_or_star net (Some t) = train_name net t
train_or_star net None = codes "*"

abbrev pub segment_line : NetworkPlan → World → ℕ → List ℕ
segment_line net w s = line_of
    (codes "segment" ∷ segment_name net s ∷ train_or_star net (occupant net w s) ∷ train_or_star net (low_holder net w s)
    ∷ train_or_star net (high_holder net w s) ∷ [])

-- the line of the report after which the world has come about that so many moves leave, 0 for the start
abbrev pub line_after : ℕ → ℕ
line_after zero = 0
line_after (suc k) = k + 3

abbrev pub peak_line : ℕ → ℕ → List ℕ
peak_line occupied place =
    line_of (codes "peak" ∷ decimal occupied ∷ codes "after" ∷ decimal (line_after place) ∷ [])

-- of the values of f at the numbers up to n the greatest, and the first number that has it
pub record IsPeak (f : ℕ → ℕ) (n peak place : ℕ) : Type 0 where
  pub within : place ≤ n
  pub value : f place ≡ peak
  pub greatest : (k : ℕ) → k ≤ n → f k ≤ peak
  pub first : (k : ℕ) → k < place → f k < peak

-- the text of the board of a report
pub record IsBoardText (net : NetworkPlan) (report : Report) (text : List ℕ) : Type 0 where
  pub peak : ℕ
  pub place : ℕ
  pub peak_is : IsPeak (λ k. occupied_in net (world_at net report.moves k)) (length report.moves) peak place
  pub text_is : text ≡ codes "relis board 1\n" ++ start_line net
      ++ join_below (after_line net report.moves) (length report.moves)
      ++ join_below (segment_line net (world_after net report.moves)) (length net.segments)
      ++ peak_line peak place
      ++ codes "end\n"
