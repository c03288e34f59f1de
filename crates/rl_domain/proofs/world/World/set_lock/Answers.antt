use Rattle.rl_domain.proofs.Writes.{lock_changes, box_fits}
use Rattle.rl_domain.proofs.world.World.set_lock.Goals as goal

pub returns-clause-changed : goal.returns-clause-changed
returns-clause-changed c =
    rw c.put_state.ensures
    (lock_changes c.args.self.now c.args.b.0 c.state-state.result c.args.lock c.state-state.ensures)

pub returns-clause-fits : goal.returns-clause-fits
returns-clause-fits c =
    λ net fits of.
    let state = fits.states c.args.b.0 c.state-state.result c.state-state.ensures in
    rw c.put_state.ensures
    (box_fits net c.args.self.now c.args.b.0 _ fits (record { lock = of; holders = state.holders; free = state.free }))
