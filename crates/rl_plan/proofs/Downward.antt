-- From a segment with a level a step leads down, and the chosen steps are a walk to the end.
use Rattle.std.proofs.Common.{◌≡◌, ℕ, ◌+◌, ◌≤◌, List, [], ◌∷◌, length, Option, Some, None, refl, sym, subst, ◌∙◌, arith}
use Rattle.std.proofs.lemmas.Option.{same_Some}
use Rattle.rl_base.specs.declared.ids.SegId.{SegId}
use Rattle.rl_model.specs.declared.network.NetworkPlan.{NetworkPlan}
use Rattle.rl_plan.specs.declared.plan.PlanStep.{PlanStep}
use Rattle.rl_plan.specs.declared.plan.Plan.{Plan}
use Rattle.rl_plan.specs.Walks.{IsWalk}
use Rattle.rl_plan.specs.Levels.{level_of, IsLevel}
use Rattle.rl_plan.specs.Plans.{IsLeastPlan, IsRoute, IsRouteOf, LeadsDown, LeadsTo, Passes}
use Rattle.rl_plan.specs.Searching.{AreLevels}
use Rattle.rl_plan.proofs.BothWays.{neighbours-swap}
use Rattle.rl_plan.proofs.Shortest.{no_shorter, risen}

-- a segment whose level is above n has a step to one of level n
pub leads_on : (net : NetworkPlan) (to : SegId) (levels : List (Option ℕ)) (s n : ℕ) → AreLevels net to levels → level_of levels s ≡ Some (n + 1)
    → (step : PlanStep) × LeadsTo net levels s n step
leads_on net to levels s n are level = let walk = are.walks s (n + 1) level in first walk.0 walk.1 walk.2
  where
    first : (steps : List PlanStep) → IsWalk net to.0 s steps → length steps ≡ n + 1 → (step : PlanStep) × LeadsTo net levels s n step
    first [] walk long = absurd (omega arith)
    first (step ∷ steps) walk long =
        let rest = no_shorter net levels to.0 step.s.0 steps are.rises are.end walk.1 in
        let back = risen rest.0 (level_of levels s) (are.rises step.s.0 step.b.0 s rest.0 (neighbours-swap net step.b.0 s step.s.0 walk.0) rest.1) in
        let same : n + 1 ≡ back.0 = same_Some (n + 1) back.0 (sym level ∙ back.1) in
        let up : back.0 ≤ rest.0 + 1 = back.2 in
        let down : rest.0 ≤ length steps = rest.2 in
        let e : rest.0 ≡ n = omega arith in
        (step, record { near = walk.0; level = subst (λ (k : ℕ). level_of levels step.s.0 ≡ Some k) e rest.1 })

-- a segment of level 0 is the end
level_zero : (net : NetworkPlan) (to : SegId) (levels : List (Option ℕ)) (s : ℕ) → AreLevels net to levels → level_of levels s ≡ Some 0 → s ≡ to.0
level_zero net to levels s are level = let walk = are.walks s 0 level in none walk.0 walk.1 walk.2
  where
    none : (steps : List PlanStep) → IsWalk net to.0 s steps → length steps ≡ 0 → s ≡ to.0
    none [] walk short = walk
    none (step ∷ steps) walk short = absurd (omega arith)

-- the chosen steps are a walk to the end
pub down_is_walk : (net : NetworkPlan) (to : SegId) (levels : List (Option ℕ)) (s : ℕ) (steps : List PlanStep) → AreLevels net to levels
    → LeadsDown net levels s steps → IsWalk net to.0 s steps
down_is_walk net to levels s [] are down = level_zero net to levels s are down
down_is_walk net to levels s (step ∷ steps) are down = (down.0.leads.near, down_is_walk net to levels step.s.0 steps are down.1)

-- the level that a segment has is its own
own : (net : NetworkPlan) (to : SegId) (levels : List (Option ℕ)) (s : ℕ) (o : Option ℕ) → AreLevels net to levels → level_of levels s ≡ o
    → IsLevel net to.0 s o
own net to levels s (Some n) are is = (
  are.walks s n is,
  λ steps walk.
      let least = no_shorter net levels to.0 s steps are.rises are.end walk in
      let same : n ≡ least.0 = same_Some n least.0 (sym is ∙ least.1) in
      let few : least.0 ≤ length steps = least.2 in
      omega arith,
)
own net to levels s None are is = λ steps walk.
    let least = no_shorter net levels to.0 s steps are.rises are.end walk in
    absurd (no_Some least.0 (sym is ∙ least.1))
  where
    no_Some : (m : ℕ) → None ≡ Some m → ⊥
    no_Some m e = cc

-- the route as one that a check can follow
route_passes : (net : NetworkPlan) (to : SegId) (levels : List (Option ℕ)) (s : ℕ) (o : Option ℕ) (route : List PlanStep) → AreLevels net to levels
    → IsRoute net levels s o route → IsRouteOf net s to.0 o route
route_passes net to levels s (Some n) route are is = (is.0, down_is_walk net to levels s route are is.1)
route_passes net to levels s None route are is = is

-- the plan of these levels and this route
pub least_plan_is : (net : NetworkPlan) («from» to : SegId) (plan : Plan) → AreLevels net to plan.levels → plan.steps ≡ level_of plan.levels «from».0
    → IsRoute net plan.levels «from».0 plan.steps plan.route → IsLeastPlan net «from» to plan
least_plan_is net begin to plan are steps route = record {
  each = are.each;
  levels = λ s there. own net to plan.levels s (level_of plan.levels s) are refl;
  steps = steps;
  route = route;
}

pub plan_passes : (net : NetworkPlan) («from» to : SegId) (plan : Plan) → AreLevels net to plan.levels → plan.steps ≡ level_of plan.levels «from».0
    → IsRoute net plan.levels «from».0 plan.steps plan.route → Passes net «from» to plan
plan_passes net begin to plan are steps route = record {
  ends = record { each = are.each; end = are.end; begin = steps };
  near = are.rises;
  leads = route_passes net to plan.levels begin.0 plan.steps plan.route are route;
}
