-- The boxes and segments of a walk are those of the network.
use Rattle.std.proofs.Common.{◌≡◌, ℕ, zero, suc, List, [], ◌∷◌, slice_get, Option, Some, None, subst}
use Rattle.std.proofs.lemmas.Option.{same_Some}
use Rattle.rl_model.specs.declared.network.NetworkPlan.{NetworkPlan}
use Rattle.rl_model.specs.Network.{IsBoxOf, IsSegmentOf, IsNetwork}
use Rattle.rl_plan.specs.declared.plan.PlanStep.{PlanStep}
use Rattle.rl_plan.specs.Walks.{IsWalk}
use Rattle.rl_plan.specs.Plans.{IsRouteOf}
use Rattle.rl_plan.proofs.BothWays.{neighbour_there, between_there}

pub walk_there : (net : NetworkPlan) (to s : ℕ) (steps : List PlanStep) → IsNetwork net → IsWalk net to s steps
    → (k : ℕ) (step : PlanStep) → slice_get steps k ≡ Some step → IsBoxOf net step.b × IsSegmentOf net step.s
walk_there net to s [] network walk k step is = absurd (cc)
walk_there net to s (first ∷ rest) network walk zero step is =
    let same = same_Some _ _ is in
    subst (λ (x : PlanStep). IsBoxOf net x.b × IsSegmentOf net x.s) same
    (between_there net first.b.0 s first.s.0 network walk.0, neighbour_there net first.b.0 s first.s.0 walk.0)
walk_there net to s (first ∷ rest) network walk (suc k) step is = walk_there net to first.s.0 rest network walk.1 k step is

-- so it is of the steps of a route
pub route_there : (net : NetworkPlan) (from to : ℕ) (n : Option ℕ) (steps : List PlanStep) → IsNetwork net → IsRouteOf net from to n steps
    → (k : ℕ) (step : PlanStep) → slice_get steps k ≡ Some step → IsBoxOf net step.b × IsSegmentOf net step.s
route_there net from to (Some n) steps network route k step is = walk_there net to from steps network route.1 k step is
route_there net from to None steps network route k step is =
    let none = subst (λ (xs : List PlanStep). slice_get xs k ≡ Some step) route is in absurd (cc)
