use Rattle.std.proofs.Common.{refl, arith}
use Rattle.rl_plan.proofs.BothWays.{neighbour_arm}
use Rattle.rl_plan.proofs.certificate.rises_at.Goals as goal

pub returns : goal.returns
returns c = (
  λ t r near.
      let at = neighbour_arm c.args.net.now c.args.b.0 c.args.s.0 r c.accepted.ensures near in
      c.loop-y.invariant at.0 r (omega arith) at.2 near,
  λ all. refl,
)
