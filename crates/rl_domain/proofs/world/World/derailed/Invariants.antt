use Rattle.std.proofs.Common.{ℕ, ◌<◌}
use Rattle.rl_domain.specs.Rests.{IsOffRails}
use Rattle.rl_domain.proofs.world.World.derailed.Given as goal

abbrev pub invariant-loop-k : goal.invariant-loop-k
invariant-loop-k l = (t : ℕ) → t < l.k → IsOffRails l.net l.self t → ⊥
