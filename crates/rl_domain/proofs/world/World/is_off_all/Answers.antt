use Rattle.rl_domain.proofs.Meanings.{iff_at, none_is, off_all_iff}
use Rattle.rl_domain.proofs.world.World.is_off_all.Goals as goal

pub returns : goal.returns
returns c = rw c.standing.ensures (iff_at _ _ (none_is _ _ c.is_none.ensures) (off_all_iff c.standing.result))
