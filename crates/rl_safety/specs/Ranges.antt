-- What the words of a state name is there: trains, arms, and places of routes.
use Rattle.std.specs.Prelude.{◌≡◌, ℕ, ◌<◌, ◌≤◌, Option, Some, None}
use Rattle.rl_base.specs.Kind.{arms_of}
use Rattle.rl_base.specs.declared.ids.TrainId.{TrainId}
use Rattle.rl_model.specs.declared.network.NetworkPlan.{NetworkPlan}
use Rattle.rl_model.specs.Network.{IsTrainOf, kind_of, steps_of}
use Rattle.rl_words.specs.declared.lock.LockWord.{LockWord}
use Rattle.rl_words.specs.declared.lock.LockWord.TheVariants.{Free, Asked, Moving, Moved, Locked}
use Rattle.rl_words.specs.declared.lock.Path.{Path}
use Rattle.rl_words.specs.declared.run.RunWord.{RunWord}
use Rattle.rl_words.specs.declared.run.RunWord.TheVariants.{Clear, Go, Across}
use Rattle.rl_protocol.specs.State.{State}

-- train t is at a place of its route, and has a step left where it is to go or is across
abbrev pub IsOnRoute : NetworkPlan → ℕ → RunWord → Type 0
IsOnRoute net t (Clear k) = k ≤ steps_of net t
IsOnRoute net t (Go k) = k < steps_of net t
IsOnRoute net t (Across k) = k < steps_of net t

-- the path for which a box is locked
abbrev pub locked_path : LockWord → Option Path
locked_path (Free side) = None
locked_path (Asked p) = Some p
locked_path (Moving p) = Some p
locked_path (Moved p) = Some p
locked_path (Locked p) = Some p

-- whoever holds an arm or has a lock is a train of the network, and arms that a box doesn't have are free
pub record NamesWhatIsThere (net : NetworkPlan) (s : State) : Type 0 where
  pub places : (t : ℕ) → IsOnRoute net t (s.run t)
  pub holders : (b x : ℕ) (u : TrainId) → s.resv b x ≡ Some u → IsTrainOf net u
  pub free : (b x : ℕ) → arms_of (kind_of net b) ≤ x → s.resv b x ≡ None
  pub lockers : (b : ℕ) (p : Path) → locked_path (s.lock b) ≡ Some p → IsTrainOf net p.train
