use Rattle.std.proofs.Common.{arith}
use Rattle.std.specs.Prelude.{is_some}
use Rattle.rl_domain.specs.Rows.{world_of}
use Rattle.rl_board.specs.Boards.{holder}
use Rattle.rl_board.proofs.Sums.{count_few}
use Rattle.rl_board.proofs.counting.count_held.Goals as goal

pub overflow_add-count : goal.overflow_add-count
overflow_add-count c =
    let few = count_few (λ b. is_some (holder c.args.net.now (world_of c.args.net.now c.args.world.now) c.args.s.0 b)) c.loop-b.b in
    let count = c.loop-b.invariant in
    let boxes = c.boxes-b-end.ensures.network.few_boxes in
    let end = c.boxes-b-end.ensures.count in
    let below = c.loop-b-test.true in
    omega arith
