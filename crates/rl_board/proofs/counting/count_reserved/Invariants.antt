use Rattle.std.proofs.Common.{◌≡◌, length}
use Rattle.std.specs.Prelude.{is_some}
use Rattle.rl_domain.specs.Rows.{world_of}
use Rattle.rl_board.specs.Below.{count_below, sum_below}
use Rattle.rl_board.specs.Boards.{holder}
use Rattle.rl_board.proofs.counting.count_reserved.Given as goal

-- the sum of the counts of the segments before
abbrev pub invariant-loop-s : goal.invariant-loop-s
invariant-loop-s l =
    l.count ≡ sum_below (λ s. count_below (λ b. is_some (holder l.net (world_of l.net l.world) s b)) (length l.net.boxes)) l.s
