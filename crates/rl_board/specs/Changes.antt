-- What a move adds to each count, and what it takes away.
use Rattle.std.specs.Prelude.{◌≡◌, ℕ, ◌+◌, ◌<◌, ◌≤◌, ◌^◌}
use Rattle.rl_model.specs.declared.moves.Move.{Move}
use Rattle.rl_model.specs.declared.moves.Move.TheVariants.{Reserve, Release, Lock, Unlock, Enter, Leave}
use Rattle.rl_board.specs.declared.occupancy.Board.{Board}

abbrev pub entered : Move → ℕ
entered (Enter t b s s2) = 1
entered _ = 0

abbrev pub left_behind : Move → ℕ
left_behind (Leave t s) = 1
left_behind _ = 0

abbrev pub taken : Move → ℕ
taken (Reserve t s b) = 1
taken _ = 0

abbrev pub given_back : Move → ℕ
given_back (Release t s b) = 1
given_back _ = 0

abbrev pub locks : Move → ℕ
locks (Lock t b s s2) = 1
locks _ = 0

abbrev pub unlocks : Move → ℕ
unlocks (Unlock t b) = 1
unlocks _ = 0

-- the counts of the one board, and after the move those of the other
pub record CountsMove (m : Move) (old new : Board) : Type 0 where
  pub occupied : new.occupied + left_behind m ≡ old.occupied + entered m
  pub reserved : new.reserved + given_back m ≡ old.reserved + taken m
  pub locked : new.locked + unlocks m ≡ old.locked + locks m

-- the counts are high enough for what the move takes away, and low enough for one more
pub record HasRoom (m : Move) (board : Board) : Type 0 where
  pub occupied : left_behind m ≤ board.occupied + entered m
  pub reserved : given_back m ≤ board.reserved + taken m
  pub locked : unlocks m ≤ board.locked + locks m
  pub few_occupied : board.occupied + 1 < 2 ^ 32
  pub few_reserved : board.reserved + 1 < 2 ^ 32
  pub few_locked : board.locked + 1 < 2 ^ 32
