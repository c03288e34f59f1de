use Rattle.std.proofs.Common.{ap, sym, ◌∙◌, not, false}
use Rattle.rl_model.specs.World.{points_connect}
use Rattle.rl_domain.specs.Rows.{points_of}
use Rattle.rl_domain.proofs.Meanings.{iff_at, locked_path_iff, lock_in_range, ↔_trans, not_iff}
use Rattle.rl_domain.proofs.world.World.points_bar_lock.Goals as goal

pub points_connect-requires : goal.points_connect-requires
points_connect-requires c =
    let l = lock_in_range _ _ _ c.in-Some.l c.requires.fits (sym c.in-Some.ensures) in
    record { there = (c.requires.there, l.from, l.to) }

pub returns-in-Some : goal.returns-in-Some
returns-in-Some c =
    let net = c.args.net.now in
    let points = points_of c.args.self.now c.args.b.0 in
    let same = c.points_connect.ensures ∙ ap (points_connect net c.args.b.0 c.in-Some.l.s.0 c.in-Some.l.s2.0) c.points.ensures in
    rw (← c.in-Some.ensures)
    (↔_trans (iff_at _ _ (ap not same) (not_iff _))
    (locked_path_iff c.in-Some.l (λ from to. points_connect net c.args.b.0 from to points) false))
