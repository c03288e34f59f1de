-- One round of the search: from the segments of one level to their neighbours that have none yet.
use Rattle.std.specs.Prelude.{◌≡◌, ℕ, ◌+◌, ◌<◌, ◌⊎◌, List, length, slice_set, Option, Some, None, is_none, sum_by, cond, Bool, true, false}
use Rattle.rl_model.specs.declared.network.NetworkPlan.{NetworkPlan}
use Rattle.rl_plan.specs.Walks.{AreNeighbours}
use Rattle.rl_plan.specs.Levels.{level_of}

-- how many segments have no level yet
abbrev pub unmarked : List (Option ℕ) → ℕ
unmarked levels = sum_by (λ (o : Option ℕ). cond (is_none o) 1 0) levels

-- levels stay, and each new one is that above level n, at a neighbour of a segment of level n
pub record Grows (net : NetworkPlan) (n : ℕ) (old new : List (Option ℕ)) : Type 0 where
  pub each : length new ≡ length old
  pub kept : (s m : ℕ) → level_of old s ≡ Some m → level_of new s ≡ Some m
  pub only : (r m : ℕ) → level_of new r ≡ Some m
      → (level_of old r ≡ Some m)
      ⊎ ((m ≡ n + 1) × ((b : ℕ) × (s : ℕ) × AreNeighbours net b s r × (level_of old s ≡ Some n)))

-- whether a level is new: then fewer segments have none, and otherwise all is as before
abbrev pub Tells : Bool → List (Option ℕ) → List (Option ℕ) → Type 0
Tells true old new = unmarked new < unmarked old
Tells false old new = new ≡ old

-- segment r has a level
abbrev pub IsMarked : List (Option ℕ) → ℕ → Type 0
IsMarked levels r = (m : ℕ) × (level_of levels r ≡ Some m)

-- segment r gets the level exactly where it has none, and all else stays
abbrev pub Gives : Bool → List (Option ℕ) → List (Option ℕ) → ℕ → ℕ → Type 0
Gives true old new r level = (level_of old r ≡ None) × (new ≡ slice_set old r (Some level))
Gives false old new r level = new ≡ old

-- levels have grown from the old ones, and the flag says whether by one at least
pub record IsGrown (net : NetworkPlan) (n : ℕ) (more : Bool) (old new : List (Option ℕ)) : Type 0 where
  pub grows : Grows net n old new
  pub tells : Tells more old new

-- if segment s had level n, each of its neighbours has a level now
abbrev pub MarksFrom : NetworkPlan → ℕ → List (Option ℕ) → List (Option ℕ) → ℕ → Type 0
MarksFrom net n old new s = (b r : ℕ) → level_of old s ≡ Some n → AreNeighbours net b s r → IsMarked new r
