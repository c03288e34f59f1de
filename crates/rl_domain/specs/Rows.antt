-- The rows of a world: a standing for each train and a state for each box, and the world that they are.
use Rattle.std.specs.Prelude.{◌≡◌, ℕ, ◌<◌, ◌≤◌, ◌≢◌, Bool, false, List, length, slice_get, Option, Some, None}
use Rattle.std.specs.Option.{option_map_or}
use Rattle.rl_base.specs.Kind.{arms_of}
use Rattle.rl_base.specs.declared.ids.TrainId.{TrainId}
use Rattle.rl_model.specs.declared.moves.Points.{Points}
use Rattle.rl_model.specs.declared.moves.Points.TheVariants as points
use Rattle.rl_model.specs.declared.network.NetworkPlan.{NetworkPlan}
use Rattle.rl_model.specs.Network.{arm_of, kind_of, steps_of}
use Rattle.rl_model.specs.World.{World}
use Rattle.rl_domain.specs.declared.states.PathLock.{PathLock}
use Rattle.rl_domain.specs.declared.states.BoxState.{BoxState}
use Rattle.rl_domain.specs.declared.states.Passage.{Passage}
use Rattle.rl_domain.specs.declared.states.Standing.{Standing}
use Rattle.rl_domain.specs.States.{is_train, is_lock, holder_at, stands_on, stands_across}

-- what contracts see of a `World`
pub record Rows : Type 0 where
  pub trains : List Standing
  pub boxes : List BoxState

-- the holder of segment s at box b
abbrev pub holder_of : NetworkPlan → Rows → ℕ → ℕ → Option TrainId
holder_of net rows s b =
    option_map_or (λ x. option_map_or (λ state. holder_at state x) (slice_get rows.boxes b) None) (arm_of net s b) None

-- the lock of box b
abbrev pub lock_of : Rows → ℕ → Option PathLock
lock_of rows b = option_map_or (λ (x : BoxState). x.lock) (slice_get rows.boxes b) None

-- the lock of box b is train t's, from one segment to the other
abbrev pub locked_of : Rows → ℕ → ℕ → ℕ → ℕ → Bool
locked_of rows b t from to = is_lock t from to (lock_of rows b)

-- train t occupies segment s
abbrev pub occupies_of : Rows → ℕ → ℕ → Bool
occupies_of rows t s = option_map_or (stands_on s) (slice_get rows.trains t) false

-- train t is across box b, from one segment to the other
abbrev pub across_of : Rows → ℕ → ℕ → ℕ → ℕ → Bool
across_of rows t b from to = option_map_or (stands_across b from to) (slice_get rows.trains t) false

-- the points of box b
abbrev pub points_of : Rows → ℕ → Points
points_of rows b = option_map_or (λ (x : BoxState). x.points) (slice_get rows.boxes b) points.Left

-- the steps that train t made
abbrev pub made_of : Rows → ℕ → ℕ
made_of rows t = option_map_or (λ (x : Standing). x.made) (slice_get rows.trains t) 0

-- the world that the rows are
abbrev pub world_of : NetworkPlan → Rows → World
world_of net rows =
    record {
      occupies = occupies_of rows;
      across = across_of rows;
      holds = λ t s b. is_train t (holder_of net rows s b);
      locked = locked_of rows;
      points = points_of rows;
      made = made_of rows;
    }

-- a passage of a train on segment s leads over a box to another segment
pub record IsPassage (net : NetworkPlan) (s : ℕ) (p : Passage) : Type 0 where
  pub box : p.b.0 < length net.boxes
  pub to : p.to.0 < length net.segments
  pub away : s ≢ p.to.0

-- train t stands on a segment, and has a step left where it is across
pub record IsStanding (net : NetworkPlan) (t : ℕ) (x : Standing) : Type 0 where
  pub made : x.made ≤ steps_of net t
  pub on : x.on.0 < length net.segments
  pub passage : (p : Passage) → x.across ≡ Some p → IsPassage net x.on.0 p
  pub going : (p : Passage) → x.across ≡ Some p → x.made < steps_of net t

-- a lock is of a train and two segments
pub record IsLock (net : NetworkPlan) (l : PathLock) : Type 0 where
  pub train : l.t.0 < length net.trains
  pub from : l.s.0 < length net.segments
  pub to : l.s2.0 < length net.segments

-- the lock and the holders of box b are in range, and an arm that it doesn't have is free
pub record IsState (net : NetworkPlan) (b : ℕ) (x : BoxState) : Type 0 where
  pub lock : (l : PathLock) → x.lock ≡ Some l → IsLock net l
  pub holders : (i : ℕ) (u : TrainId) → holder_at x i ≡ Some u → u.0 < length net.trains
  pub free : (i : ℕ) → arms_of (kind_of net b) ≤ i → holder_at x i ≡ None

-- the rows are of that network
pub record Fits (net : NetworkPlan) (rows : Rows) : Type 0 where
  pub trains : length rows.trains ≡ length net.trains
  pub boxes : length rows.boxes ≡ length net.boxes
  pub standings : (t : ℕ) (x : Standing) → slice_get rows.trains t ≡ Some x → IsStanding net t x
  pub states : (b : ℕ) (x : BoxState) → slice_get rows.boxes b ≡ Some x → IsState net b x
