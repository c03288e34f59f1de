use Rattle.std.proofs.Common.{ap, ◌∙◌, is_some}
use Rattle.rl_domain.proofs.Meanings.{iff_at, locked_iff}
use Rattle.rl_domain.proofs.world.World.has_lock.Goals as goal

pub returns : goal.returns
returns c = iff_at _ _ (c.is_some.ensures ∙ ap is_some c.lock.ensures) (locked_iff _)
