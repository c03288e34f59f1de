use Rattle.rl_core.specs.Worlds.{AreSpots}
use Rattle.rl_core.proofs.cores.Core.spots.Given as goal

abbrev pub invariant-loop-t : goal.invariant-loop-t
invariant-loop-t l = AreSpots l.self l.t l.spots
