use Rattle.std.proofs.Common.{◌≡◌, ◌++◌}
use Rattle.rl_board.specs.Below.{join_below}
use Rattle.rl_board.specs.Boards.{world_on}
use Rattle.rl_board.specs.BoardText.{segment_line}
use Rattle.rl_board.proofs.segments.put_segments.Given as goal

-- the lines of the segments before have been appended
abbrev pub invariant-loop-s : goal.invariant-loop-s
invariant-loop-s l = l.out ≡ l.initial.out ++ join_below (segment_line l.net (world_on l.net l.board)) l.s
