-- The world of its parts: a spot for each train, and a state for each box.
use Rattle.std.specs.Prelude.{◌≡◌, ℕ, ◌+◌, ◌<◌, ◌≤◌, ◌==◌, Bool, true, false, ◌&&◌, ◌||◌, List, length, slice_get, Some}
use Rattle.std.specs.Option.{option_map_or}
use Rattle.rl_model.specs.declared.moves.Points.TheVariants as points
use Rattle.rl_model.specs.declared.network.NetworkPlan.{NetworkPlan}
use Rattle.rl_model.specs.Network.{arm_of, steps_of, route_segment, route_box}
use Rattle.rl_model.specs.Safety.{IsKept}
use Rattle.rl_model.specs.World.{World}
use Rattle.rl_domain.specs.declared.parts.Spot.{Spot}
use Rattle.rl_domain.specs.declared.states.BoxState.{BoxState}
use Rattle.rl_domain.specs.Rows.{IsState}
use Rattle.rl_domain.specs.States.{is_train, is_lock, holder_at}

-- segment s is at place k of the route of train t, and box b is the one that step k of it passes
abbrev pub is_route_segment : NetworkPlan → (t k s : ℕ) → Bool
is_route_segment net t k s = option_map_or (λ y. y == s) (route_segment net t k) false

abbrev pub is_route_box : NetworkPlan → (t k b : ℕ) → Bool
is_route_box net t k b = option_map_or (λ y. y == b) (route_box net t k) false

-- that step leads over box b, from the one segment to the other
abbrev pub is_route_step : NetworkPlan → (t k b from to : ℕ) → Bool
is_route_step net t k b from to =
    is_route_box net t k b && is_route_segment net t k from && is_route_segment net t (k + 1) to

-- a train at the spot occupies the segment of its step, and while it is across the next one too
abbrev pub occupies_at : NetworkPlan → (t s : ℕ) → Spot → Bool
occupies_at net t s spot =
    is_route_segment net t spot.step s || (spot.across && is_route_segment net t (spot.step + 1) s)

-- it is then across the box of its step, from the one to the other
abbrev pub across_at : NetworkPlan → (t b from to : ℕ) → Spot → Bool
across_at net t b from to spot = spot.across && is_route_step net t spot.step b from to

-- the state of box b says that train t holds the segment at arm x
abbrev pub holds_at : List BoxState → (t b x : ℕ) → Bool
holds_at boxes t b x = option_map_or (λ state. is_train t (holder_at state x)) (slice_get boxes b) false

-- the trains are at their spots and have made that many steps; each box has its points, its lock, and the holders of
-- the segments at its arms
abbrev pub world_of_parts : NetworkPlan → List Spot → List BoxState → World
world_of_parts net spots boxes =
    record {
      occupies = λ t s. option_map_or (occupies_at net t s) (slice_get spots t) false;
      across = λ t b from to. option_map_or (across_at net t b from to) (slice_get spots t) false;
      holds = λ t s b. option_map_or (holds_at boxes t b) (arm_of net s b) false;
      locked = λ b t from to. option_map_or (λ (x : BoxState). is_lock t from to x.lock) (slice_get boxes b) false;
      points = λ b. option_map_or (λ (x : BoxState). x.points) (slice_get boxes b) points.Left;
      made = λ t. option_map_or (λ (x : Spot). x.step) (slice_get spots t) 0;
    }

-- train t has made at most the steps of its route, and has one left where it is across
pub record IsSpot (net : NetworkPlan) (t : ℕ) (x : Spot) : Type 0 where
  pub made : x.step ≤ steps_of net t
  pub going : x.across ≡ true → x.step < steps_of net t

-- one spot for each train and one state for each box, in order; numbers are in range, and arms that aren't there free;
-- and what every move keeps holds in their world
pub record AreParts (net : NetworkPlan) (spots : List Spot) (boxes : List BoxState) : Type 0 where
  pub trains : length spots ≡ length net.trains
  pub count : length boxes ≡ length net.boxes
  pub each : (t : ℕ) (x : Spot) → slice_get spots t ≡ Some x → IsSpot net t x
  pub states : (b : ℕ) (x : BoxState) → slice_get boxes b ≡ Some x → IsState net b x
  pub kept : IsKept net (world_of_parts net spots boxes)
