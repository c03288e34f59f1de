use Rattle.std.proofs.Common.{◌≡◌, ◌++◌, drop}
use Rattle.rl_model.specs.Safety.{GuardedFrom}
use Rattle.rl_board.specs.Below.{join_below}
use Rattle.rl_board.specs.Boards.{IsBoard, world_on, occupied_in}
use Rattle.rl_board.specs.BoardText.{after_line, world_at, IsPeak}
use Rattle.rl_board.proofs.moves.put_moves.Given as goal

-- the board, the text and the peak of the moves before, and the guards of those that are left
abbrev pub invariant-loop-k : goal.invariant-loop-k
invariant-loop-k l =
    record {
      board : IsBoard l.net l.board;
      world : world_on l.net l.board ≡ world_at l.net l.moves l.k;
      guarded : GuardedFrom l.net (world_on l.net l.board) (drop l.k l.moves);
      text : l.out ≡ l.initial.out ++ join_below (after_line l.net l.moves) l.k;
      peak : IsPeak (λ k. occupied_in l.net (world_at l.net l.moves k)) l.k l.peak.occupied l.peak.place;
    }
