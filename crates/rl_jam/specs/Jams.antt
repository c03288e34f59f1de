-- The jams of a report: rings of spent trains, each last refused by the next.
use Rattle.std.specs.Prelude.{◌≡◌, ◌≢◌, ℕ, ◌+◌, ◌<◌, ◌≤◌, false, List, [], ◌∷◌, slice_get, Some}
use Rattle.std.specs.List.{AllByRecursion}
use Rattle.rl_model.specs.declared.moves.Move.{Move}
use Rattle.rl_model.specs.declared.moves.Move.TheVariants.{Refuse, Bar}
use Rattle.rl_model.specs.declared.report.Fate.TheVariants.{Spent}
use Rattle.rl_model.specs.declared.report.Outcome.{Outcome}
use Rattle.rl_model.specs.declared.report.Report.{Report}
use Rattle.rl_model.specs.Reports.{is_refusal}
use Rattle.rl_jam.specs.declared.waits.WaitRow.{WaitRow}

-- the move is a refusal of train t, by train u
abbrev pub Refuses : Move → ℕ → ℕ → Type 0
Refuses (Refuse x s b y) t u = (x.0 ≡ t) × (y.0 ≡ u)
Refuses (Bar x b y) t u = (x.0 ≡ t) × (y.0 ≡ u)
Refuses _ t u = ⊥

-- the last refusal of train t is by train u, and stands on that line of the report. The first move stands on line 3
pub record IsLastRefusal (moves : List Move) (t u line : ℕ) : Type 0 where
  pub place : ℕ
  pub move : Move
  pub there : slice_get moves place ≡ Some move
  pub refuses : Refuses move t u
  pub last : (k : ℕ) (m : Move) → place < k → slice_get moves k ≡ Some m → is_refusal t m ≡ false
  pub line_is : line ≡ place + 3

-- the report says that train t is spent
pub record IsSpent (report : Report) (t : ℕ) : Type 0 where
  pub outcome : Outcome
  pub there : slice_get report.outcomes t ≡ Some outcome
  pub fate : outcome.fate ≡ Spent

-- the train of the row is spent, and was last refused by the train and on the line that the row names
pub record IsWait (report : Report) (row : WaitRow) : Type 0 where
  pub spent : IsSpent report row.t.0
  pub last : IsLastRefusal report.moves row.t.0 row.u.0 row.line

-- the rows lead from train t to train u: each is of the train that the row before it names
abbrev pub LeadsTo : ℕ → List WaitRow → ℕ → Type 0
LeadsTo t [] u = t ≡ u
LeadsTo t (row ∷ rows) u = (row.t.0 ≡ t) × LeadsTo row.u.0 rows u

-- no row is of train t
abbrev pub IsNotIn : ℕ → List WaitRow → Type 0
IsNotIn t rows = AllByRecursion (λ (row : WaitRow). row.t.0 ≢ t) rows

-- no two rows are of one train
abbrev pub AreApart : List WaitRow → Type 0
AreApart [] = Unit {0}
AreApart (row ∷ rows) = IsNotIn row.t.0 rows × AreApart rows

-- the rows are a jam that begins with train t: they lead from it round to it, each train waits as its row says, the
-- trains are different, and t is the lowest
pub record IsJam (report : Report) (t : ℕ) (rows : List WaitRow) : Type 0 where
  pub some : rows ≢ []
  pub around : LeadsTo t rows t
  pub waits : AllByRecursion (IsWait report) rows
  pub apart : AreApart rows
  pub least : AllByRecursion (λ (row : WaitRow). t ≤ row.t.0) rows

-- the list has every jam of the report and nothing else, in the order of their first trains
pub record AreJams (report : Report) (jams : List (List WaitRow)) : Type 0 where
  pub each : (k : ℕ) (rows : List WaitRow) → slice_get jams k ≡ Some rows → (t : ℕ) × IsJam report t rows
  pub all : (t : ℕ) (rows : List WaitRow) → IsJam report t rows → (k : ℕ) × (slice_get jams k ≡ Some rows)
  pub rising : (j k t v : ℕ) (rows others : List WaitRow) → j < k → slice_get jams j ≡ Some rows
      → slice_get jams k ≡ Some others → IsJam report t rows → IsJam report v others → t < v
