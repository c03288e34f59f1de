use Rattle.std.proofs.Common.{◌≡◌, ℕ, ◌<◌, false}
use Rattle.rl_model.specs.World.{starts_on}
use Rattle.rl_domain.proofs.first_states.starter.Given as goal

abbrev pub invariant-loop-k : goal.invariant-loop-k
invariant-loop-k l = (t : ℕ) → t < l.k → starts_on l.net t l.s.0 ≡ false
