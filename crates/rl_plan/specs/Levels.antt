-- How far each segment is from a segment: the least number of steps of a walk to it.
use Rattle.std.specs.Prelude.{◌≡◌, ℕ, ◌≤◌, List, length, slice_index_or, Option, Some, None}
use Rattle.rl_model.specs.declared.network.NetworkPlan.{NetworkPlan}
use Rattle.rl_plan.specs.declared.plan.PlanStep.{PlanStep}
use Rattle.rl_plan.specs.Walks.{IsWalk}

-- the level that the list gives segment s, none where it gives it none
abbrev pub level_of : List (Option ℕ) → ℕ → Option ℕ
level_of levels s = slice_index_or levels s None

-- there is a walk of so many steps from segment s to segment `to`
abbrev pub HasWalk : NetworkPlan → ℕ → ℕ → ℕ → Type 0
HasWalk net to s n = (steps : List PlanStep) × IsWalk net to s steps × (length steps ≡ n)

-- the level of segment s: so many steps has some walk, and none has fewer; none where there is no walk
abbrev pub IsLevel : NetworkPlan → ℕ → ℕ → Option ℕ → Type 0
IsLevel net to s (Some n) = HasWalk net to s n × ((steps : List PlanStep) → IsWalk net to s steps → n ≤ length steps)
IsLevel net to s None = (steps : List PlanStep) → ¬ IsWalk net to s steps
