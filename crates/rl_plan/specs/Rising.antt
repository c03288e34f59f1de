-- Levels that rise by one at most from a segment to its neighbours.
use Rattle.std.specs.Prelude.{◌≡◌, ℕ, ◌+◌, ◌≤◌, List, Option, Some, None}
use Rattle.rl_model.specs.declared.network.NetworkPlan.{NetworkPlan}
use Rattle.rl_plan.specs.Walks.{AreNeighbours}
use Rattle.rl_plan.specs.Levels.{level_of}

-- there is a level, and it is at most one above n
abbrev pub RisesTo : ℕ → Option ℕ → Type 0
RisesTo n (Some m) = m ≤ n + 1
RisesTo n None = ⊥

-- each neighbour of segment s has a level that is at most one above that of s, where s has one
abbrev pub RisesFrom : NetworkPlan → List (Option ℕ) → ℕ → Type 0
RisesFrom net levels s = (b r n : ℕ) → AreNeighbours net b s r → level_of levels s ≡ Some n
    → RisesTo n (level_of levels r)

-- so it is from each segment
abbrev pub RisesByOne : NetworkPlan → List (Option ℕ) → Type 0
RisesByOne net levels = (s : ℕ) → RisesFrom net levels s
