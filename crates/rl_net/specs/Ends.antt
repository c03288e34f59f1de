-- What is kept of the ends of each segment while they are counted.
use Rattle.std.specs.Prelude.{◌≡◌, ℕ, List, Some, slice_get, is_some}
use Rattle.rl_model.specs.declared.network.SegmentEnd.{SegmentEnd}
use Rattle.rl_net.specs.declared.rule_10_ends.Ends.{Ends}

-- the first two of these ends, and whether there are more
abbrev pub ends_kept : List SegmentEnd → Ends
ends_kept es = record { low = slice_get es 0; high = slice_get es 1; more = is_some (slice_get es 2) }

-- at the number of each of the names the table keeps that name's ends
abbrev pub Keeps : List (List ℕ) → List Ends → (List ℕ → List SegmentEnd) → Type 0
Keeps names table ends = (s : ℕ) (name : List ℕ) → slice_get names s ≡ Some name
    → slice_get table s ≡ Some (ends_kept (ends name))
