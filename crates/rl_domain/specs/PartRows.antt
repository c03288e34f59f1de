-- How the trains stand that are at their spots.
use Rattle.std.specs.Prelude.{◌≡◌, ℕ, ◌+◌, ◌<◌, Bool, true, false, List, length, slice_get, Option, Some, None}
use Rattle.rl_model.specs.declared.network.NetworkPlan.{NetworkPlan}
use Rattle.rl_model.specs.Network.{route_segment, route_box}
use Rattle.rl_domain.specs.declared.parts.Spot.{Spot}
use Rattle.rl_domain.specs.declared.states.Passage.{Passage}
use Rattle.rl_domain.specs.declared.states.Standing.{Standing}

-- the passage over step k of the route of train t
pub record IsRoutePassage (net : NetworkPlan) (t k : ℕ) (p : Passage) : Type 0 where
  pub box : route_box net t k ≡ Some p.b.0
  pub to : route_segment net t (k + 1) ≡ Some p.to.0
  pub box_there : p.b.0 < length net.boxes
  pub to_there : p.to.0 < length net.segments

-- a train that is across has that passage, and any other has none
abbrev pub IsAcrossOf : NetworkPlan → (t k : ℕ) → Bool → Option Passage → Type 0
IsAcrossOf net t k true (Some p) = IsRoutePassage net t k p
IsAcrossOf net t k false None = Unit {0}
IsAcrossOf net t k across passage = ⊥

-- train t, at the spot, stands so
pub record IsStandingAt (net : NetworkPlan) (t : ℕ) (spot : Spot) (x : Standing) : Type 0 where
  pub made : x.made ≡ spot.step
  pub on : route_segment net t spot.step ≡ Some x.on.0
  pub segment : x.on.0 < length net.segments
  pub across : IsAcrossOf net t spot.step spot.across x.across

-- how each train stands
pub record IsStandingOf (net : NetworkPlan) (spots : List Spot) (t : ℕ) (x : Standing) : Type 0 where
  pub spot : Spot
  pub there : slice_get spots t ≡ Some spot
  pub stands : IsStandingAt net t spot x

pub record AreStandingsOf (net : NetworkPlan) (spots : List Spot) (xs : List Standing) : Type 0 where
  pub count : length xs ≡ length spots
  pub each : (t : ℕ) (x : Standing) → slice_get xs t ≡ Some x → IsStandingOf net spots t x
