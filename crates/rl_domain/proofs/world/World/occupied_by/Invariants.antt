use Rattle.std.proofs.Common.{◌≡◌, ℕ, ◌<◌, false}
use Rattle.rl_domain.specs.Rows.{occupies_of}
use Rattle.rl_domain.proofs.world.World.occupied_by.Given as goal

-- none of the trains before is on the segment
abbrev pub invariant-loop-k : goal.invariant-loop-k
invariant-loop-k l = (t : ℕ) → t < l.k → occupies_of l.self t l.s.0 ≡ false
