use Rattle.std.proofs.Common.{length, arith}
use Rattle.std.specs.Prelude.{is_some}
use Rattle.rl_domain.specs.Rows.{world_of}
use Rattle.rl_board.specs.Below.{count_below}
use Rattle.rl_board.specs.Boards.{holder}
use Rattle.rl_board.proofs.Kept.{few_held}
use Rattle.rl_board.proofs.Sums.{sum_few}
use Rattle.rl_board.proofs.counting.count_reserved.Goals as goal

pub overflow_add-count : goal.overflow_add-count
overflow_add-count c =
    let net = c.args.net.now in
    let w = world_of net c.args.world.now in
    let network = c.segments-s-end.ensures.network in
    let few = sum_few (λ s. count_below (λ b. is_some (holder net w s b)) (length net.boxes)) c.loop-s.s 128 (λ s. few_held net w s network) in
    let count = c.loop-s.invariant in
    let segments = network.few_segments in
    let end = c.segments-s-end.ensures.count in
    let below = c.loop-s-test.true in
    let more = few_held net w c.loop-s.s network in
    let held = c.count_held-count.ensures in
    omega arith
