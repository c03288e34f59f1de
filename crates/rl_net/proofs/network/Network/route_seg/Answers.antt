use Rattle.std.proofs.Common.{rules}
use Rattle.rl_net.proofs.network.Network.route_seg.Goals as goal

pub returns-clause-in_range : goal.returns-clause-in_range
returns-clause-in_range c =
    rw (← c.self.view_is) ((c.self.invariant.network.trains _ _ c.at.ensures.there).segments c.args.k _ (search rules))
