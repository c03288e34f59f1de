use Rattle.std.proofs.Common.{sym}
use Rattle.rl_domain.proofs.Holders.{reserved_in_range}
use Rattle.rl_domain.proofs.world.World.reserved_by.Goals as goal

pub returns-clause-in_range : goal.returns-clause-in_range
returns-clause-in_range c =
    reserved_in_range c.args.net.now c.args.self.now c.args.s.0 c.args.b.0 c.holder.result c.requires.fits (sym c.holder.ensures)
