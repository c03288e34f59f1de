-- The route of a plan as the route of a train in a draft, and the rules on routes.
use Rattle.std.specs.Prelude.{◌≡◌, ℕ, List, [], ◌∷◌, false}
use Rattle.rl_base.specs.declared.draft.DraftTrain.{DraftTrain}
use Rattle.rl_base.specs.declared.draft.Draft.{Draft}
use Rattle.rl_base.specs.declared.place.Place.TheVariants as place
use Rattle.rl_model.specs.declared.network.NetworkPlan.{NetworkPlan}
use Rattle.rl_model.specs.Network.{segment_name, box_name}
use Rattle.rl_drafts.specs.Refusals.{breaks}
use Rattle.rl_plan.specs.declared.plan.PlanStep.{PlanStep}

-- the names along the steps from segment s: segments and boxes in turn
abbrev pub route_names : NetworkPlan → ℕ → List PlanStep → List (List ℕ)
route_names net s [] = segment_name net s ∷ []
route_names net s (step ∷ steps) = segment_name net s ∷ box_name net step.b.0 ∷ route_names net step.s.0 steps

-- the draft with these trains
abbrev pub with_trains : Draft → List DraftTrain → Draft
with_trains d trains = record { segments = d.segments; boxes = d.boxes; trains = trains }

-- the route of train i isn't too long, has an odd number of names, in turn of segments and boxes, and each box connects
-- the segments before and after it
pub record KeepsRules (d : Draft) (i : ℕ) : Type 0 where
  pub short : breaks d 5 (place.TrainRoute i) ≡ false
  pub shape : breaks d 12 (place.TrainRoute i) ≡ false
  pub names : (j : ℕ) → breaks d 13 (place.RouteItem i j) ≡ false
  pub fits : (j : ℕ) → breaks d 14 (place.RouteItem i j) ≡ false
