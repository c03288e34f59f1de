-- The first two ends of each segment in a table.
use Rattle.std.specs.Prelude.{◌≡◌, ℕ, List, Some, slice_get, option_map, false}
use Rattle.rl_model.specs.declared.network.SegmentEnd.{SegmentEnd}
use Rattle.rl_drafts.specs.Refusals.{is_twice}
use Rattle.rl_ends.specs.declared.segment_ends.Pair.{Pair}

-- the number of the box, and of the arm
abbrev pub numbers_of : SegmentEnd → ℕ × ℕ
numbers_of e = (e.at.0, e.arm.0)

-- the first two of these ends
abbrev pub pair_of : List SegmentEnd → Pair
pair_of ends = record { low = option_map numbers_of (slice_get ends 0); high = option_map numbers_of (slice_get ends 1) }

-- at the number of each of the names the table keeps the first two of that name's ends
abbrev pub KeepsPairs : List (List ℕ) → List Pair → (List ℕ → List SegmentEnd) → Type 0
KeepsPairs names table ends = (s : ℕ) (name : List ℕ) → slice_get names s ≡ Some name
    → slice_get table s ≡ Some (pair_of (ends name))

-- no name is that of an earlier one
abbrev pub AreUnlike : List (List ℕ) → Type 0
AreUnlike names = (i : ℕ) → is_twice names i ≡ false
