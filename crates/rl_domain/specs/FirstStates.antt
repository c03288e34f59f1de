-- The rows at the start of a network.
use Rattle.std.specs.Prelude.{◌≡◌, ℕ, ◌<◌, false, List, length, slice_get, Option, Some, None}
use Rattle.std.specs.Option.{option_map_or}
use Rattle.rl_base.specs.declared.ids.TrainId.{TrainId}
use Rattle.rl_model.specs.declared.network.NetworkPlan.{NetworkPlan}
use Rattle.rl_model.specs.Network.{route_segment, segment_at, start_side}
use Rattle.rl_model.specs.World.{points_at, starts_on}
use Rattle.rl_domain.specs.declared.states.BoxState.{BoxState}
use Rattle.rl_domain.specs.declared.states.Standing.{Standing}
use Rattle.rl_domain.specs.States.{is_train, holder_at}

-- the holder is the train that starts on the segment
pub record IsStarter (net : NetworkPlan) (segment : Option ℕ) (holder : Option TrainId) : Type 0 where
  pub starts : (t : ℕ) → is_train t holder ≡ option_map_or (starts_on net t) segment false
  pub train : (u : TrainId) → holder ≡ Some u → u.0 < length net.trains

-- train t stands on the first segment of its route and has made no step
pub record IsFirstStanding (net : NetworkPlan) (t : ℕ) (x : Standing) : Type 0 where
  pub made : x.made ≡ 0
  pub on : route_segment net t 0 ≡ Some x.on.0
  pub segment : x.on.0 < length net.segments
  pub off : x.across ≡ None

-- box b stands as written, without a lock, and its holders are the trains that start on its segments
pub record IsFirstState (net : NetworkPlan) (b : ℕ) (x : BoxState) : Type 0 where
  pub points : x.points ≡ points_at (start_side net b)
  pub unlocked : x.lock ≡ None
  pub holders : (i : ℕ) → i < 4 → IsStarter net (segment_at net b i) (holder_at x i)

-- the first standing of each train, and the first state of each box
pub record AreFirstStandings (net : NetworkPlan) (xs : List Standing) : Type 0 where
  pub count : length xs ≡ length net.trains
  pub each : (t : ℕ) (x : Standing) → slice_get xs t ≡ Some x → IsFirstStanding net t x

pub record AreFirstStates (net : NetworkPlan) (xs : List BoxState) : Type 0 where
  pub count : length xs ≡ length net.boxes
  pub each : (b : ℕ) (x : BoxState) → slice_get xs b ≡ Some x → IsFirstState net b x
