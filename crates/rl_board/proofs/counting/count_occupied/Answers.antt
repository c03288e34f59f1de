use Rattle.std.proofs.Common.{arith}
use Rattle.std.specs.Prelude.{is_some}
use Rattle.rl_domain.specs.Rows.{world_of}
use Rattle.rl_board.specs.Boards.{occupant}
use Rattle.rl_board.proofs.Sums.{count_few}
use Rattle.rl_board.proofs.counting.count_occupied.Goals as goal

pub overflow_add-count : goal.overflow_add-count
overflow_add-count c =
    let few = count_few (λ s. is_some (occupant c.args.net.now (world_of c.args.net.now c.args.world.now) s)) c.loop-s.s in
    let count = c.loop-s.invariant in
    let segments = c.segments-s-end.ensures.network.few_segments in
    let end = c.segments-s-end.ensures.count in
    let below = c.loop-s-test.true in
    omega arith
