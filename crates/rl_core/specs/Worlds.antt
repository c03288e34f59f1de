-- What the words of a core say of the world: the spot of each train, and the state of each box.
use Rattle.std.specs.Prelude.{◌≡◌, ℕ, ◌<◌, true, false, List, length, slice_get, Some}
use Rattle.rl_model.specs.declared.network.NetworkPlan.{NetworkPlan}
use Rattle.rl_model.specs.Network.{kind_of, segment_at}
use Rattle.rl_words.specs.declared.run.RunWord.{RunWord}
use Rattle.rl_words.specs.declared.run.RunWord.TheVariants.{Clear, Go, Across}
use Rattle.rl_domain.specs.declared.parts.Spot.{Spot}
use Rattle.rl_domain.specs.declared.states.BoxState.{BoxState}
use Rattle.rl_domain.specs.States.{is_lock, holder_at}
use Rattle.rl_protocol.specs.Worlds.{locks, points_in}
use Rattle.rl_safety.specs.Reading.{resv_in, lock_in, run_in}
use Rattle.rl_core.specs.Cores.{Core, state_of}

-- where a train with the run word is
abbrev pub spot_of : RunWord → Spot
spot_of (Clear k) = record { step = k; across = false }
spot_of (Go k) = record { step = k; across = false }
spot_of (Across k) = record { step = k; across = true }

-- the spots of the first trains
pub record AreSpots (core : Core) (count : ℕ) (spots : List Spot) : Type 0 where
  pub size : length spots ≡ count
  pub each : (t : ℕ) (x : Spot) → slice_get spots t ≡ Some x → x ≡ spot_of (run_in core.line (state_of core) t)

-- the lock word of box b says the points and the lock, and its reservation word the holders
pub record IsBoxState (net : NetworkPlan) (core : Core) (b : ℕ) (x : BoxState) : Type 0 where
  pub points : x.points ≡ points_in (kind_of net b) (lock_in core.line (state_of core) b)
  pub lock : (t from to : ℕ)
      → is_lock t from to x.lock ≡ locks (segment_at net b) (lock_in core.line (state_of core) b) t from to
  pub holders : (i : ℕ) → i < 4 → holder_at x i ≡ resv_in core.line (state_of core) b i

-- the states of the first boxes
pub record AreBoxStates (net : NetworkPlan) (core : Core) (count : ℕ) (boxes : List BoxState) : Type 0 where
  pub size : length boxes ≡ count
  pub each : (b : ℕ) (x : BoxState) → slice_get boxes b ≡ Some x → IsBoxState net core b x
