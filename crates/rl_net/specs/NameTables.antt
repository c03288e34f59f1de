-- The names of a draft in tables, and why there is no table.
use Rattle.std.specs.Prelude.{◌≡◌, ℕ, ◌<◌, true, false, List, length}
use Rattle.rl_base.specs.declared.draft.Draft.{Draft}
use Rattle.rl_drafts.specs.Drafts.{box_names, train_names}
use Rattle.rl_drafts.specs.Refusals.{is_twice}
use Rattle.rl_net.specs.declared.named_draft.NameTables.{NameTables}
use Rattle.rl_net.specs.declared.name_table.NameFault.{NameFault}
use Rattle.rl_net.specs.declared.name_table.NameFault.TheVariants as fault

-- no name is that of an earlier one
abbrev pub AreUnlike : List (List ℕ) → Type 0
AreUnlike names = (i : ℕ) → is_twice names i ≡ false

-- name i is the first that an earlier one is; want of memory says nothing
abbrev pub IsNameFault : List (List ℕ) → NameFault → Type 0
IsNameFault names (fault.Twice i) = (i < length names) × (is_twice names i ≡ true)
    × ((j : ℕ) → j < i → is_twice names j ≡ false)
IsNameFault names fault.NoMemory = Unit {0}

-- the tables are those of the draft's segments, boxes and trains, no two of which have one name
pub record AreTablesOf (d : Draft) (names : NameTables) : Type 0 where
  pub segments : names.segments ≡ d.segments
  pub boxes : names.boxes ≡ box_names d
  pub trains : names.trains ≡ train_names d
  pub segments_unlike : AreUnlike d.segments
