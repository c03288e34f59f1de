use Rattle.rl_domain.proofs.Writes.{points_changes, box_fits}
use Rattle.rl_domain.proofs.world.World.set_points.Goals as goal

pub returns-clause-changed : goal.returns-clause-changed
returns-clause-changed c =
    rw c.put_state.ensures
    (points_changes c.args.self.now c.args.b.0 c.state-state.result c.args.points c.state-state.ensures)

pub returns-clause-fits : goal.returns-clause-fits
returns-clause-fits c =
    λ net fits.
    let state = fits.states c.args.b.0 c.state-state.result c.state-state.ensures in
    rw c.put_state.ensures
    (box_fits net c.args.self.now c.args.b.0 _ fits (record { lock = state.lock; holders = state.holders; free = state.free }))
