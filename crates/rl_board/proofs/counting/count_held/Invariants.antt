use Rattle.std.proofs.Common.{◌≡◌}
use Rattle.std.specs.Prelude.{is_some}
use Rattle.rl_domain.specs.Rows.{world_of}
use Rattle.rl_board.specs.Below.{count_below}
use Rattle.rl_board.specs.Boards.{holder}
use Rattle.rl_board.proofs.counting.count_held.Given as goal

-- the count of the boxes before
abbrev pub invariant-loop-b : goal.invariant-loop-b
invariant-loop-b l = l.count ≡ count_below (λ b. is_some (holder l.net (world_of l.net l.world) l.s.0 b)) l.b
