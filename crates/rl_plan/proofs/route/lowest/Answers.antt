use Rattle.std.proofs.Common.{◌+◌, sym, subst}
use Rattle.rl_plan.specs.Choosing.{IsLowestOf}
use Rattle.rl_base.specs.declared.ids.SegId.{SegId}
use Rattle.std.proofs.Common.{Option}
use Rattle.rl_plan.proofs.Lowest.{lowest_more, lowest_all, next_at_is}
use Rattle.rl_plan.proofs.route.lowest.Goals as goal

pub loop-y-preserved : goal.loop-y-preserved
loop-y-preserved c =
    subst (λ (o : Option SegId). IsLowestOf c.args.net.now c.args.levels.now c.args.b.0 c.args.s.0 c.args.n (c.loop-y.y + 1) o) (sym c.lower-best.ensures)
    (lowest_more c.args.net.now c.args.levels.now c.args.b.0 c.args.s.0 c.args.n c.loop-y.y c.loop-y.best c.next_at.result c.loop-y.invariant
    (next_at_is c.args.net.now c.args.levels.now c.args.b.0 c.args.s.0 c.args.n c.loop-y.y c.next_at.result c.next_at.ensures.some c.next_at.ensures.none))

pub returns : goal.returns
returns c =
    lowest_all c.args.net.now c.args.levels.now c.args.b.0 c.args.s.0 c.args.n c.loop-y.y c.loop-y.best c.accepted.ensures c.loop-y-test.false
    c.loop-y.invariant
