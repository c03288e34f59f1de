use Rattle.std.proofs.Common.{arith}
use Rattle.rl_net.proofs.network.Network.steps.Goals as goal

pub overflow_cast-result : goal.overflow_cast-result
overflow_cast-result c =
    let short = (c.self.invariant.network.trains _ _ c.at.ensures.there).short in
    omega (arith, short)

pub returns-clause-few : goal.returns-clause-few
returns-clause-few c =
    let short = (c.self.invariant.network.trains _ _ c.at.ensures.there).short in
    omega (arith, short)
