-- One train by itself: off the rails, or at rest.
use Rattle.std.specs.Prelude.{◌≡◌, ℕ, ◌<◌, ◌==◌, Bool, true, false, ◌&&◌}
use Rattle.std.specs.Option.{option_map_or}
use Rattle.rl_model.specs.declared.network.NetworkPlan.{NetworkPlan}
use Rattle.rl_model.specs.Network.{has_end, segment_at}
use Rattle.rl_model.specs.World.{points_connect}
use Rattle.rl_domain.specs.declared.states.BoxState.{BoxState}
use Rattle.rl_domain.specs.States.{is_train, holder_at}
use Rattle.rl_domain.specs.Rows.{Rows, across_of, points_of, holder_of, locked_of}

-- train t is across a box whose points don't connect its two segments
pub record IsOffRails (net : NetworkPlan) (rows : Rows) (t : ℕ) : Type 0 where
  pub box : ℕ
  pub from : ℕ
  pub to : ℕ
  pub across : across_of rows t box from to ≡ true
  pub apart : points_connect net box from to (points_of rows box) ≡ true → ⊥

-- segment s is at arm i of box b
abbrev pub is_at_arm : NetworkPlan → ℕ → ℕ → ℕ → Bool
is_at_arm net s b i = option_map_or (λ y. y == s) (segment_at net b i) false

-- of the arms of box b train t holds that of segment s, and no other
abbrev pub KeepsArms : NetworkPlan → BoxState → ℕ → ℕ → ℕ → Type 0
KeepsArms net state t s b = (i : ℕ) → i < 4 → is_train t (holder_at state i) ≡ is_at_arm net s b i

-- at box b train t holds segment s if it ends there, and nothing else, and has no lock
pub record KeepsOnly (net : NetworkPlan) (rows : Rows) (t s b : ℕ) : Type 0 where
  pub holds : (y : ℕ) → is_train t (holder_of net rows y b) ≡ (y == s && has_end net y b)
  pub unlocked : (from to : ℕ) → locked_of rows b t from to ≡ false
