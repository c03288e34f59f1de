-- What the tables hold that are made of the names of boxes and of the arms that ends name.
use Rattle.std.specs.Prelude.{◌≡◌, ℕ, ◌+◌, ◌*◌, ◌<◌, List, length, slice_get, Option, Some, bytes_eq, Vec, if◌then◌else◌}
use Rattle.std.specs.Map.{lookup}
use Rattle.std.specs.declared.alloc.Global.{Global}
use Rattle.rl_base.specs.Numbers.{IsU32}
use Rattle.rl_drafts.specs.Drafts.{number_in}
use Rattle.rl_model.specs.declared.network.SegmentEnd.{SegmentEnd}
use Rattle.rl_ends.specs.EndsDrafts.{end_number}
use Rattle.rl_ends.specs.declared.ends_draft.EndsDraft.{EndsDraft}

abbrev pub Entries : Type 0
Entries = List (Vec ℕ Global × ℕ)

-- what is noted of the name
abbrev pub noted : Entries → List ℕ → Option ℕ
noted entries name = lookup (λ k. bytes_eq name k.items) entries

-- of each name its number in the list is noted
abbrev pub HasNumbers : Entries → List (List ℕ) → Type 0
HasNumbers entries names = (name : List ℕ) → noted entries name ≡ number_in names name

-- of this name the number is noted, and of each other name what was noted before
abbrev pub HasNumber : Entries → Entries → List ℕ → ℕ → Type 0
HasNumber old new name i = (other : List ℕ) → noted new other ≡ (if bytes_eq other name then Some i else noted old other)

-- at four times the number of one of the first n boxes, and the arm, stands the first of these ends that names the arm
abbrev pub Keeps : ℕ → List (Option SegmentEnd) → List (Option ℕ) → Type 0
Keeps n arms table = (b x : ℕ) → b < n → x < 4 → slice_get table (4 * b + x) ≡ Some (end_number arms b x)

-- places can number the segments and the boxes
pub record IsCountable (d : EndsDraft) : Type 0 where
  pub segments : IsU32 (length d.segments)
  pub boxes : IsU32 (length d.boxes)
