use Rattle.std.proofs.Common.{◌<◌, arith}
use Rattle.rl_plan.proofs.BothWays.{neighbour_arm}
use Rattle.rl_plan.proofs.marking.mark_through.Goals as goal

pub returns-clause-marks : goal.returns-clause-marks
returns-clause-marks c = λ r near.
    let at = neighbour_arm c.args.net.now c.args.b.0 c.args.s.0 r c.accepted.ensures near in
    let few : at.0 < c.loop-y.y = omega arith in
    c.loop-y.invariant.1 at.0 r few at.2 near
