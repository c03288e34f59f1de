use Rattle.rl_domain.proofs.Meanings.{iff_at, from_iff}
use Rattle.rl_domain.proofs.world.World.comes_from.Goals as goal

pub returns : goal.returns
returns c = rw c.standing.ensures (iff_at _ _ c.comes_from.ensures (from_iff c.args.s.0 c.standing.result))
