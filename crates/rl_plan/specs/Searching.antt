-- What a search has found after a number of rounds.
use Rattle.std.specs.Prelude.{◌≡◌, ℕ, ◌+◌, ◌<◌, ◌≤◌, Bool, true, false, List, length, Option, Some}
use Rattle.rl_base.specs.declared.ids.SegId.{SegId}
use Rattle.rl_model.specs.declared.network.NetworkPlan.{NetworkPlan}
use Rattle.rl_plan.specs.Walks.{AreNeighbours}
use Rattle.rl_plan.specs.Levels.{level_of, HasWalk}
use Rattle.rl_plan.specs.Rising.{RisesTo, RisesByOne}
use Rattle.rl_plan.specs.Marking.{unmarked}

-- where the last round gave a level, there may be more rounds than those so far; where it gave none, levels rise by one
-- at most everywhere
abbrev pub GoesOn : NetworkPlan → ℕ → Bool → List (Option ℕ) → Type 0
GoesOn net n true levels = n + unmarked levels < length net.segments
GoesOn net n false levels = RisesByOne net levels

-- each level has a walk of so many steps, none is above the rounds made, and from those below it they rise by one at
-- most
pub record IsSearched (net : NetworkPlan) (to n : ℕ) (more : Bool) (levels : List (Option ℕ)) : Type 0 where
  pub each : length levels ≡ length net.segments
  pub end : level_of levels to ≡ Some 0
  pub walks : (s m : ℕ) → level_of levels s ≡ Some m → HasWalk net to s m
  pub low : (s m : ℕ) → level_of levels s ≡ Some m → m ≤ n
  pub near : (s b r m : ℕ) → level_of levels s ≡ Some m → m < n → AreNeighbours net b s r
      → RisesTo m (level_of levels r)
  pub goes_on : GoesOn net n more levels

-- a level for each segment, 0 at the end, each with a walk of so many steps, that rise by one at most everywhere
pub record AreLevels (net : NetworkPlan) (to : SegId) (levels : List (Option ℕ)) : Type 0 where
  pub each : length levels ≡ length net.segments
  pub end : level_of levels to.0 ≡ Some 0
  pub walks : (s m : ℕ) → level_of levels s ≡ Some m → HasWalk net to.0 s m
  pub rises : RisesByOne net levels
