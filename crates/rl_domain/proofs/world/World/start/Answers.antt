use Rattle.rl_domain.proofs.Beginnings.{start_world, start_fits}
use Rattle.rl_domain.proofs.world.World.start.Goals as goal

pub returns-clause-start : goal.returns-clause-start
returns-clause-start c = start_world _ _ c.accepted.ensures c.in_ok-trains.ensures c.in_ok-boxes.ensures

pub returns-clause-fits : goal.returns-clause-fits
returns-clause-fits c = start_fits _ _ c.accepted.ensures c.in_ok-trains.ensures c.in_ok-boxes.ensures

pub returns-clause-kept : goal.returns-clause-kept
returns-clause-kept c =
    rw (start_world _ _ c.accepted.ensures c.in_ok-trains.ensures c.in_ok-boxes.ensures)
    (c.safe_runs.ensures.start _ c.accepted.ensures)
