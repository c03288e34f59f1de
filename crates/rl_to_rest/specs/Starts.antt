-- A line on which no train has a step to make.
use Rattle.std.specs.Prelude.{◌≡◌, ℕ, [], slice_get, Some}
use Rattle.rl_tables.specs.declared.table.Tables.{Tables}
use Rattle.rl_tables.specs.declared.table.TrainTable.{TrainTable}

-- the route of every train ends where it begins
abbrev pub NoneMoves : Tables → Type 0
NoneMoves tables = (t : ℕ) (x : TrainTable) → slice_get tables.trains t ≡ Some x → x.rows ≡ []
