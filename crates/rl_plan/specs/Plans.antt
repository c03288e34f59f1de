-- The least plan from a segment to another, and what a plan has to show so that no walk is shorter.
use Rattle.std.specs.Prelude.{◌≡◌, ℕ, ◌<◌, ◌≤◌, ◌⊎◌, List, [], ◌∷◌, length, Option, Some, None}
use Rattle.rl_base.specs.declared.ids.SegId.{SegId}
use Rattle.rl_model.specs.declared.network.NetworkPlan.{NetworkPlan}
use Rattle.rl_plan.specs.declared.plan.PlanStep.{PlanStep}
use Rattle.rl_plan.specs.declared.plan.Plan.{Plan}
use Rattle.rl_plan.specs.Walks.{AreNeighbours, IsWalk}
use Rattle.rl_plan.specs.Levels.{level_of, IsLevel}
use Rattle.rl_plan.specs.Rising.{RisesByOne}

-- the step leads from segment s to a neighbour of level n
pub record LeadsTo (net : NetworkPlan) (levels : List (Option ℕ)) (s n : ℕ) (step : PlanStep) : Type 0 where
  pub near : AreNeighbours net step.b.0 s step.s.0
  pub level : level_of levels step.s.0 ≡ Some n

-- the first step has the lower box, or the same box and no higher segment
abbrev pub IsNoHigher : PlanStep → PlanStep → Type 0
IsNoHigher step other = (step.b.0 < other.b.0) ⊎ ((step.b.0 ≡ other.b.0) × (step.s.0 ≤ other.s.0))

-- of all steps from segment s to neighbours of level n this one has the least box, and of that the least segment
pub record IsChosen (net : NetworkPlan) (levels : List (Option ℕ)) (s n : ℕ) (step : PlanStep) : Type 0 where
  pub leads : LeadsTo net levels s n step
  pub least : (other : PlanStep) → LeadsTo net levels s n other → IsNoHigher step other

-- from segment s the chosen steps lead down, a level in each, to level 0
abbrev pub LeadsDown : NetworkPlan → List (Option ℕ) → ℕ → List PlanStep → Type 0
LeadsDown net levels s [] = level_of levels s ≡ Some 0
LeadsDown net levels s (step ∷ steps) =
    IsChosen net levels s (length steps) step × LeadsDown net levels step.s.0 steps

-- the route of a plan: the chosen steps, as many as the level; none where there is no walk
abbrev pub IsRoute : NetworkPlan → List (Option ℕ) → ℕ → Option ℕ → List PlanStep → Type 0
IsRoute net levels from (Some n) route = (length route ≡ n) × LeadsDown net levels from route
IsRoute net levels from None route = route ≡ []

-- the plan with the least number of steps from a segment to another, and each segment's own level
pub record IsLeastPlan (net : NetworkPlan) («from» to : SegId) (plan : Plan) : Type 0 where
  pub each : length plan.levels ≡ length net.segments
  pub levels : (s : ℕ) → s < length net.segments → IsLevel net to.0 s (level_of plan.levels s)
  pub steps : plan.steps ≡ level_of plan.levels «from».0
  pub route : IsRoute net plan.levels «from».0 plan.steps plan.route

-- a route of so many steps that leads from a segment to the other; none where there are no steps
abbrev pub IsRouteOf : NetworkPlan → ℕ → ℕ → Option ℕ → List PlanStep → Type 0
IsRouteOf net from to (Some n) route = (length route ≡ n) × IsWalk net to from route
IsRouteOf net from to None route = route ≡ []

-- a level for each segment, 0 at the end, and so many steps as the level of the beginning
pub record HasEnds (net : NetworkPlan) («from» to : SegId) (steps : Option ℕ) (levels : List (Option ℕ)) : Type 0 where
  pub each : length levels ≡ length net.segments
  pub end : level_of levels to.0 ≡ Some 0
  pub begin : steps ≡ level_of levels «from».0

-- these, levels that rise by one at most from a segment to its neighbours, and a route of so many steps from the one
-- segment to the other
pub record Shows (net : NetworkPlan) («from» to : SegId) (steps : Option ℕ) (route : List PlanStep)
    (levels : List (Option ℕ)) : Type 0 where
  pub ends : HasEnds net «from» to steps levels
  pub near : RisesByOne net levels
  pub leads : IsRouteOf net «from».0 to.0 steps route

-- what a plan has to show
abbrev pub Passes : NetworkPlan → SegId → SegId → Plan → Type 0
Passes net from to plan = Shows net from to plan.steps plan.route plan.levels
