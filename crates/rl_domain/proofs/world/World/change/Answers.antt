use Rattle.rl_domain.proofs.Moved.{reserve_world, release_world, lock_world}
use Rattle.rl_domain.proofs.Travels.{enter_world, leave_world, enter_fits, leave_fits, leave_few}
use Rattle.rl_domain.proofs.world.World.change.Goals as goal

pub returns-in-Reserve-clause-world : goal.returns-in-Reserve-clause-world
returns-in-Reserve-clause-world c =
    rw c.in-Reserve.is (reserve_world _ _ _ _ _ _ c.set_holder.ensures.changed (rw c.in-Reserve.is at c.requires.guards))

pub returns-in-Release-clause-world : goal.returns-in-Release-clause-world
returns-in-Release-clause-world c =
    rw c.in-Release.is
    (release_world _ _ _ c.in-Release.t _ _ c.set_holder-in-Release.ensures.changed (rw c.in-Release.is at c.requires.guards))

pub returns-in-Lock-clause-world : goal.returns-in-Lock-clause-world
returns-in-Lock-clause-world c =
    rw c.in-Lock.is (lock_world c.args.net.now _ _ _ _ c.set_lock.ensures.changed (rw c.in-Lock.is at c.requires.guards))

pub returns-in-Enter-clause-world : goal.returns-in-Enter-clause-world
returns-in-Enter-clause-world c =
    rw c.in-Enter.is
    (enter_world _ _ _ _ _ c.in-Enter.s _ c.requires.fits (rw c.in-Enter.is at c.requires.of).0 c.enter.ensures.changed (rw c.in-Enter.is at c.requires.guards))

pub returns-in-Enter-clause-fits : goal.returns-in-Enter-clause-fits
returns-in-Enter-clause-fits c =
    let of = rw c.in-Enter.is at c.requires.of in
    enter_fits _ _ _ _ _ c.in-Enter.s _ c.requires.fits of.0 of.1 of.3 c.enter.ensures.changed (rw c.in-Enter.is at c.requires.guards)

pub leave-requires-clause-few : goal.leave-requires-clause-few
leave-requires-clause-few c =
    leave_few _ _ _ c.in-Leave.s c.requires.network c.requires.fits (rw c.in-Leave.is at c.requires.of).0 (rw c.in-Leave.is at c.requires.guards)

pub returns-in-Leave-clause-world : goal.returns-in-Leave-clause-world
returns-in-Leave-clause-world c =
    rw c.in-Leave.is
    (leave_world _ _ _ _ c.in-Leave.s c.requires.fits (rw c.in-Leave.is at c.requires.of).0 c.leave.ensures.changed (rw c.in-Leave.is at c.requires.guards))

pub returns-in-Leave-clause-fits : goal.returns-in-Leave-clause-fits
returns-in-Leave-clause-fits c =
    leave_fits _ _ _ _ c.in-Leave.s c.requires.fits (rw c.in-Leave.is at c.requires.of).0 c.leave.ensures.changed (rw c.in-Leave.is at c.requires.guards)
