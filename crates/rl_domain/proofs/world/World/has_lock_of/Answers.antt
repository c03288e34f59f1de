use Rattle.std.proofs.Common.{ap, ◌∙◌}
use Rattle.rl_domain.specs.States.{is_lock_of}
use Rattle.rl_domain.specs.Rows.{lock_of}
use Rattle.rl_domain.proofs.Meanings.{iff_at, lock_of_iff}
use Rattle.rl_domain.proofs.world.World.has_lock_of.Goals as goal

pub returns : goal.returns
returns c =
    iff_at _ _ (c.is_lock_of.ensures ∙ ap (is_lock_of c.args.t.0) c.lock.ensures)
    (lock_of_iff c.args.t.0 (lock_of c.args.self.now c.args.b.0))
