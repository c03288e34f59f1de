use Rattle.rl_domain.proofs.Arms.{ends_in_range}
use Rattle.rl_domain.proofs.world.World.holds_ends.Goals as goal

pub holds-requires-clause-there : goal.holds-requires-clause-there
holds-requires-clause-there c =
    (c.requires.there, (ends_in_range _ _ _ _ _ _ c.accepted.ensures c.ends.ensures).0)

pub holds-requires-then-holds-clause-there : goal.holds-requires-then-holds-clause-there
holds-requires-then-holds-clause-there c =
    (c.requires.there, (ends_in_range _ _ _ _ _ _ c.accepted.ensures c.ends.ensures).1)
