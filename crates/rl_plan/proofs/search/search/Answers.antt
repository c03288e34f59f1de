use Rattle.std.proofs.Common.{arith}
use Rattle.rl_plan.proofs.Searched.{few_rounds, next_of}
use Rattle.rl_plan.proofs.search.search.Goals as goal

pub mark_round-more-requires-clause-room : goal.mark_round-more-requires-clause-room
mark_round-more-requires-clause-room c =
    few_rounds c.args.net.now c.args.to.0 c.loop-more.n c.loop-more.more c.loop-more.levels c.accepted.ensures c.loop-more.invariant
    c.loop-more-test.true

pub overflow_add-n : goal.overflow_add-n
overflow_add-n c =
    omega (
      arith,
      few_rounds c.args.net.now c.args.to.0 c.loop-more.n c.loop-more.more c.loop-more.levels c.accepted.ensures
          c.loop-more.invariant c.loop-more-test.true,
    )

pub loop-more-preserved : goal.loop-more-preserved
loop-more-preserved c =
    next_of c.args.net.now c.args.to.0 c.loop-more.n c.loop-more.more c.mark_round-more.result c.loop-more.levels c.mark_round-more.new.levels
    c.loop-more-test.true c.loop-more.invariant c.mark_round-more.ensures.grown c.mark_round-more.ensures.marks
