use Rattle.std.proofs.Common.{ap, ◌∙◌, is_none}
use Rattle.rl_domain.proofs.Meanings.{iff_at, none_is, unlocked_iff}
use Rattle.rl_domain.proofs.world.World.is_unlocked.Goals as goal

pub returns : goal.returns
returns c = iff_at _ _ (none_is _ _ c.is_none.ensures ∙ ap is_none c.lock.ensures) (unlocked_iff _)
