-- What is known while jams are looked for: last refusals, the next row, the jam that begins with a train.
use Rattle.std.specs.Prelude.{◌≡◌, ◌≢◌, ℕ, ◌<◌, ◌≤◌, false, List, [], ◌∷◌, ◌++◌, slice_get, Option, Some, None}
use Rattle.rl_model.specs.declared.moves.Move.{Move}
use Rattle.rl_model.specs.declared.moves.Move.TheVariants.{Refuse, Bar}
use Rattle.rl_model.specs.declared.report.Report.{Report}
use Rattle.rl_model.specs.Reports.{is_refusal}
use Rattle.rl_jam.specs.declared.waits.WaitRow.{WaitRow}
use Rattle.rl_jam.specs.Jams.{IsLastRefusal, IsWait, IsJam, IsNotIn, LeadsTo, AreApart}
use Rattle.std.specs.List.{AllByRecursion}

-- the last refusal of train t, none where it was never refused
abbrev pub IsLastOf : List Move → ℕ → Option WaitRow → Type 0
IsLastOf moves t (Some row) = (row.t.0 ≡ t) × IsLastRefusal moves t row.u.0 row.line
IsLastOf moves t None = (k : ℕ) (m : Move) → slice_get moves k ≡ Some m → is_refusal t m ≡ false

abbrev pub AreLast : List Move → List (Option WaitRow) → Type 0
AreLast moves last = (t : ℕ) (x : Option WaitRow) → slice_get last t ≡ Some x → IsLastOf moves t x

-- a train that the move refuses is one of so many
abbrev pub IsNoted : ℕ → Move → Type 0
IsNoted trains (Refuse t s b u) = t.0 < trains
IsNoted trains (Bar t b u) = t.0 < trains
IsNoted trains _ = Unit {0}

-- how train t waits, none where it isn't spent or was never refused
abbrev pub IsWaitOf : Report → ℕ → Option WaitRow → Type 0
IsWaitOf report t (Some row) = (row.t.0 ≡ t) × IsWait report row
IsWaitOf report t None = (row : WaitRow) → row.t.0 ≡ t → IsWait report row → ⊥

-- the row of train t goes on behind these rows of a jam that begins with train `first`
pub record GoesOn (report : Report) (first : ℕ) (rows : List WaitRow) (t : ℕ) (row : WaitRow) : Type 0 where
  pub train : row.t.0 ≡ t
  pub wait : IsWait report row
  pub above : first ≤ t
  pub new : IsNotIn t rows

abbrev pub IsNextRow : Report → ℕ → List WaitRow → ℕ → Option WaitRow → Type 0
IsNextRow report first rows t (Some row) = GoesOn report first rows t row
IsNextRow report first rows t None = (row : WaitRow) → GoesOn report first rows t row → ⊥

-- the rest of a jam behind these rows leads on from train t
pub record HasRest (first : ℕ) (rows all : List WaitRow) (t : ℕ) : Type 0 where
  pub rest : List WaitRow
  pub joined : all ≡ rows ++ rest
  pub leads : LeadsTo t rest first
  pub more : rest ≢ []

-- the rows lead from train `first` to train t, and every jam that begins with `first` begins with them
pub record AreBegun (report : Report) (first : ℕ) (rows : List WaitRow) (t : ℕ) : Type 0 where
  pub leads : LeadsTo first rows t
  pub waits : AllByRecursion (IsWait report) rows
  pub apart : AreApart rows
  pub least : AllByRecursion (λ (row : WaitRow). first ≤ row.t.0) rows
  pub only : (all : List WaitRow) → IsJam report first all → HasRest first rows all t

-- the jam that begins with train `first`, none where none does
abbrev pub IsJamFrom : Report → ℕ → Option (List WaitRow) → Type 0
IsJamFrom report first (Some rows) =
    IsJam report first rows × ((other : List WaitRow) → IsJam report first other → other ≡ rows)
IsJamFrom report first None = (rows : List WaitRow) → IsJam report first rows → ⊥

-- the jams with that one besides, if there is one
abbrev pub with_jam : List (List WaitRow) → Option (List WaitRow) → List (List WaitRow)
with_jam jams (Some rows) = jams ++ rows ∷ []
with_jam jams None = jams

-- the jams that begin with a train below n
pub record AreJamsBelow (report : Report) (n : ℕ) (jams : List (List WaitRow)) : Type 0 where
  pub each : (k : ℕ) (rows : List WaitRow) → slice_get jams k ≡ Some rows → (t : ℕ) × (t < n) × IsJam report t rows
  pub all : (t : ℕ) (rows : List WaitRow) → t < n → IsJam report t rows → (k : ℕ) × (slice_get jams k ≡ Some rows)
  pub rising : (j k t v : ℕ) (rows others : List WaitRow) → j < k → slice_get jams j ≡ Some rows
      → slice_get jams k ≡ Some others → IsJam report t rows → IsJam report v others → t < v
