use Rattle.std.proofs.Common.{ℕ, ◌<◌}
use Rattle.rl_domain.specs.Rests.{KeepsOnly}
use Rattle.rl_domain.proofs.world.World.rests.Given as goal

abbrev pub invariant-loop-k : goal.invariant-loop-k
invariant-loop-k l = (b : ℕ) → b < l.k → KeepsOnly l.net l.self l.t.0 l.standing.on.0 b
