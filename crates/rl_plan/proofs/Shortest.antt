-- Levels that rise by one at most from a segment to its neighbours: no walk has fewer steps than the level.
use Rattle.std.proofs.Common.{◌≡◌, ℕ, ◌+◌, ◌≤◌, List, [], ◌∷◌, length, Option, Some, None, refl, sym, subst, ◌∙◌, arith}
use Rattle.rl_model.specs.declared.network.NetworkPlan.{NetworkPlan}
use Rattle.rl_plan.specs.declared.plan.PlanStep.{PlanStep}
use Rattle.rl_plan.specs.Walks.{IsWalk}
use Rattle.rl_plan.specs.Levels.{level_of, IsLevel}
use Rattle.rl_plan.specs.Plans.{IsRouteOf}
use Rattle.std.proofs.lemmas.Option.{same_Some}
use Rattle.rl_plan.specs.Rising.{RisesTo, RisesByOne}
use Rattle.rl_plan.proofs.BothWays.{neighbours-swap}

-- the level that there is
pub risen : (n : ℕ) (o : Option ℕ) → RisesTo n o → (m : ℕ) × (o ≡ Some m) × (m ≤ n + 1)
risen n (Some m) low = (m, refl, low)
risen n None none = absurd none

-- a segment from which a walk leads to the end has a level, and it is no more than the steps of the walk
pub no_shorter : (net : NetworkPlan) (levels : List (Option ℕ)) (to s : ℕ) (steps : List PlanStep) → RisesByOne net levels
    → level_of levels to ≡ Some 0 → IsWalk net to s steps → (m : ℕ) × (level_of levels s ≡ Some m) × (m ≤ length steps)
no_shorter net levels to s [] rises end walk = (0, subst (λ (x : ℕ). level_of levels x ≡ Some 0) (sym walk) end, omega arith)
no_shorter net levels to s (step ∷ steps) rises end walk =
    let rest = no_shorter net levels to step.s.0 steps rises end walk.1 in
    let here = risen rest.0 (level_of levels s) (rises step.s.0 step.b.0 s rest.0 (neighbours-swap net step.b.0 s step.s.0 walk.0) rest.1) in
    let few : here.0 ≤ rest.0 + 1 = here.2 in
    let fewer : rest.0 ≤ length steps = rest.2 in
    (here.0, here.1, omega arith)

-- the level of a segment is its own: a route of so many steps leads from it, and no walk has fewer steps
pub own_level : (net : NetworkPlan) (levels : List (Option ℕ)) (to s : ℕ) (o : Option ℕ) (route : List PlanStep) → RisesByOne net levels
    → level_of levels to ≡ Some 0 → o ≡ level_of levels s → IsRouteOf net s to o route → IsLevel net to s o
own_level net levels to s (Some n) route rises end is led = (
  (route, led.1, led.0),
  λ steps walk.
      let least = no_shorter net levels to s steps rises end walk in
      let same : n ≡ least.0 = same_Some n least.0 (is ∙ least.1) in
      let few : least.0 ≤ length steps = least.2 in
      omega arith,
)
own_level net levels to s None route rises end is led = λ steps walk.
    let least = no_shorter net levels to s steps rises end walk in absurd (no_Some least.0 (is ∙ least.1))
  where
    no_Some : (m : ℕ) → None ≡ Some m → ⊥
    no_Some m e = cc
