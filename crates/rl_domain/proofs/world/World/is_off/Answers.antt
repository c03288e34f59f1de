use Rattle.std.proofs.Common.{ap, not}
use Rattle.rl_domain.proofs.Meanings.{iff_at, not_iff, ↔_trans, off_iff}
use Rattle.rl_domain.proofs.world.World.is_off.Goals as goal

pub returns : goal.returns
returns c =
    rw c.standing.ensures
    (iff_at _ _ (ap not c.is_across.ensures) (↔_trans (not_iff _) (off_iff c.args.b.0 c.standing.result)))
