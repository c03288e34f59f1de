-- The lowest segment of a level that is a neighbour through a box.
use Rattle.std.specs.Prelude.{◌≡◌, ℕ, ◌≤◌, ◌<◌, min, List, Option, Some, None}
use Rattle.rl_base.specs.declared.ids.SegId.{SegId}
use Rattle.rl_model.specs.declared.network.NetworkPlan.{NetworkPlan}
use Rattle.rl_model.specs.Network.{segment_at}
use Rattle.rl_plan.specs.Walks.{AreNeighbours}
use Rattle.rl_plan.specs.Levels.{level_of}

-- segment r is a neighbour of s through box b, and has level n
pub record IsNext (net : NetworkPlan) (levels : List (Option ℕ)) (b s n r : ℕ) : Type 0 where
  pub near : AreNeighbours net b s r
  pub level : level_of levels r ≡ Some n

-- the lowest such segment at the first arms of the box, none where none of them is one
abbrev pub IsLowestOf : NetworkPlan → List (Option ℕ) → ℕ → ℕ → ℕ → ℕ → Option SegId → Type 0
IsLowestOf net levels b s n arms (Some r) = IsNext net levels b s n r.0
    × ((y q : ℕ) → y < arms → segment_at net b y ≡ Some q → IsNext net levels b s n q → r.0 ≤ q)
IsLowestOf net levels b s n arms None =
    (y q : ℕ) → y < arms → segment_at net b y ≡ Some q → ¬ IsNext net levels b s n q

-- the lowest such segment at the box
abbrev pub IsLowest : NetworkPlan → List (Option ℕ) → ℕ → ℕ → ℕ → Option SegId → Type 0
IsLowest net levels b s n (Some r) = IsNext net levels b s n r.0 × ((q : ℕ) → IsNext net levels b s n q → r.0 ≤ q)
IsLowest net levels b s n None = (q : ℕ) → ¬ IsNext net levels b s n q

-- the lower of two segments, where there are two
abbrev pub lower : Option SegId → Option SegId → Option SegId
lower (Some x) (Some y) = Some (record { 0 = min x.0 y.0 })
lower (Some x) None = Some x
lower None y = y
