use Rattle.std.proofs.Common.{◌≡◌}
use Rattle.std.specs.Prelude.{is_some}
use Rattle.rl_domain.specs.Rows.{world_of}
use Rattle.rl_board.specs.Below.{count_below}
use Rattle.rl_board.specs.Boards.{occupant}
use Rattle.rl_board.proofs.counting.count_occupied.Given as goal

-- the count of the segments before
abbrev pub invariant-loop-s : goal.invariant-loop-s
invariant-loop-s l = l.count ≡ count_below (λ s. is_some (occupant l.net (world_of l.net l.world) s)) l.s
