-- What turns make of a node.
use Rattle.std.specs.Prelude.{◌≡◌, ℕ, ◌+◌, ◌<◌, min, max, List, length, slice_index_or}
use Rattle.rl_base.specs.Numbers.{greatest_u64}

-- the count after so many turns more. It stands still at the last number of 64 bits
abbrev pub raised : ℕ → ℕ → ℕ
raised turns more = max turns (min (turns + more) greatest_u64)

-- the node after so many turns
pub record HasTurned {T : Type 0} (number turns : T → ℕ) (home : T → T → Type 0) (times : ℕ) (old new : T)
    : Type 0 where
  pub number_is : number new ≡ number old
  pub at_home : home old new
  pub turns_are : turns new ≡ raised (turns old) times

-- each of the nodes, in its place, after so many turns
abbrev pub EachTurned : {T : Type 0} → (number turns : T → ℕ) → (home : T → T → Type 0) → ℕ → List T → List T → Type 0
EachTurned {T} number turns home times old new =
    (i : ℕ) (d : T) → i < length old
    → HasTurned number turns home times (slice_index_or old i d) (slice_index_or new i d)
