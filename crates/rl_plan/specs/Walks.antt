-- Walks over a network: step by step from a segment to a neighbour, through a box that connects the two at some side.
use Rattle.std.specs.Prelude.{◌≡◌, ℕ, IsTrue, List, [], ◌∷◌}
use Rattle.rl_model.specs.declared.network.NetworkPlan.{NetworkPlan}
use Rattle.rl_model.specs.Network.{can_connect}
use Rattle.rl_plan.specs.declared.plan.PlanStep.{PlanStep}

-- some side of box b connects segments s and r
abbrev pub AreNeighbours : NetworkPlan → ℕ → ℕ → ℕ → Type 0
AreNeighbours net b s r = IsTrue (can_connect net b s r)

-- the steps lead from segment s to segment `to`, each through its box to a neighbour of the segment before
abbrev pub IsWalk : NetworkPlan → ℕ → ℕ → List PlanStep → Type 0
IsWalk net to s [] = s ≡ to
IsWalk net to s (step ∷ steps) = AreNeighbours net step.b.0 s step.s.0 × IsWalk net to step.s.0 steps
