use Rattle.std.proofs.Common.{sym}
use Rattle.rl_domain.proofs.Writes.{holder_changes, holder_state, box_fits}
use Rattle.rl_domain.proofs.world.World.set_holder.Goals as goal

pub returns-clause-changed : goal.returns-clause-changed
returns-clause-changed c =
    rw (c.put_state.ensures, c.with_holder.ensures)
    (holder_changes c.args.net.now c.args.self.now c.args.s.0 c.args.b.0 c.in-Some.x.0 c.state.result c.args.holder c.requires.network
    (sym c.in-Some.ensures) c.state.ensures)

pub returns-clause-fits : goal.returns-clause-fits
returns-clause-fits c =
    rw (c.put_state.ensures, c.with_holder.ensures)
    (box_fits c.args.net.now c.args.self.now c.args.b.0 _ c.requires.fits
    (holder_state c.args.net.now c.args.s.0 c.args.b.0 c.in-Some.x.0 c.state.result c.args.holder c.requires.network (sym c.in-Some.ensures) c.requires.train
    (c.requires.fits.states c.args.b.0 c.state.result c.state.ensures)))
