use Rattle.std.proofs.Common.{sym, true}
use Rattle.rl_model.specs.Network.{connects}
use Rattle.rl_domain.proofs.Meanings.{iff_at, locked_path_iff, lock_in_range}
use Rattle.rl_domain.proofs.world.World.side_fits_lock.Goals as goal

pub connects-requires : goal.connects-requires
connects-requires c =
    let l = lock_in_range _ _ _ c.in-Some.l c.requires.fits (sym c.in-Some.ensures) in
    record { there = (c.requires.there, l.from, l.to) }

pub returns-in-Some : goal.returns-in-Some
returns-in-Some c =
    rw (← c.in-Some.ensures)
    (iff_at _ _ c.connects.ensures
    (locked_path_iff c.in-Some.l (λ from to. connects c.args.net.now c.args.b.0 from to c.args.side) true))
