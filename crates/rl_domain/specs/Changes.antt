-- One thing of one box changes in the rows, and all else stays.
use Rattle.std.specs.Prelude.{◌≡◌, ℕ, ◌+◌, ◌≢◌, length, slice_get, Option, Some, None}
use Rattle.std.specs.Option.{option_map_or}
use Rattle.rl_base.specs.declared.ids.BoxId.{BoxId}
use Rattle.rl_base.specs.declared.ids.SegId.{SegId}
use Rattle.rl_base.specs.declared.ids.TrainId.{TrainId}
use Rattle.rl_model.specs.declared.moves.Points.{Points}
use Rattle.rl_model.specs.declared.network.NetworkPlan.{NetworkPlan}
use Rattle.rl_domain.specs.declared.states.Passage.{Passage}
use Rattle.rl_domain.specs.declared.states.PathLock.{PathLock}
use Rattle.rl_domain.specs.declared.states.Standing.{Standing}
use Rattle.rl_domain.specs.Rows.{Rows, holder_of, lock_of, points_of}

-- the holder of segment s at box b changes
pub record ChangesHolder (net : NetworkPlan) (old new : Rows) (s b : ℕ) (holder : Option TrainId) : Type 0 where
  pub trains : new.trains ≡ old.trains
  pub changed : holder_of net new s b ≡ holder
  pub others : (y z : ℕ) → ((y ≡ s) × (z ≡ b) → ⊥) → holder_of net new y z ≡ holder_of net old y z
  pub locks : (z : ℕ) → lock_of new z ≡ lock_of old z
  pub points : (z : ℕ) → points_of new z ≡ points_of old z

-- the lock of box b changes
pub record ChangesLock (old new : Rows) (b : ℕ) (lock : Option PathLock) : Type 0 where
  pub trains : new.trains ≡ old.trains
  pub changed : lock_of new b ≡ lock
  pub others : (z : ℕ) → z ≢ b → lock_of new z ≡ lock_of old z
  pub holders : (net : NetworkPlan) (y z : ℕ) → holder_of net new y z ≡ holder_of net old y z
  pub points : (z : ℕ) → points_of new z ≡ points_of old z

-- the points of box b change
pub record ChangesPoints (old new : Rows) (b : ℕ) (points : Points) : Type 0 where
  pub trains : new.trains ≡ old.trains
  pub changed : points_of new b ≡ points
  pub others : (z : ℕ) → z ≢ b → points_of new z ≡ points_of old z
  pub holders : (net : NetworkPlan) (y z : ℕ) → holder_of net new y z ≡ holder_of net old y z
  pub locks : (z : ℕ) → lock_of new z ≡ lock_of old z

-- a train that enters segment s2 over box b, and one that leaves the segment behind it
abbrev pub enters : BoxId → SegId → Standing → Standing
enters b s2 standing = record standing { across = Some (record { b = b; to = s2 }) }

abbrev pub leaves : Standing → Standing
leaves standing =
    option_map_or (λ (p : Passage). record { made = standing.made + 1; on = p.to; across = None }) standing.across
    standing

-- the standing of train t changes so
pub record ChangesStanding (old new : Rows) (t : ℕ) (change : Standing → Standing) : Type 0 where
  pub boxes : new.boxes ≡ old.boxes
  pub count : length new.trains ≡ length old.trains
  pub changed : (x : Standing) → slice_get old.trains t ≡ Some x → slice_get new.trains t ≡ Some (change x)
  pub others : (u : ℕ) → u ≢ t → slice_get new.trains u ≡ slice_get old.trains u
