use Rattle.std.proofs.Common.{ap, ◌∙◌, is_none}
use Rattle.rl_domain.proofs.Meanings.{iff_at, none_is, free_iff}
use Rattle.rl_domain.proofs.world.World.is_free.Goals as goal

pub returns : goal.returns
returns c = iff_at _ _ (none_is _ _ c.is_none.ensures ∙ ap is_none c.holder.ensures) (free_iff _)
