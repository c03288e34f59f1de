-- What the tables of a network are: one for each box and one for each train, with a row for each step.
use Rattle.std.specs.Prelude.{◌≡◌, ℕ, zero, suc, ◌+◌, ◌≢◌, length, List, slice_get, Option, Some, None, option_map}
use Rattle.rl_base.specs.declared.ids.SegId.{SegId}
use Rattle.rl_model.specs.declared.network.NetworkPlan.{NetworkPlan}
use Rattle.rl_model.specs.Network.{kind_of, start_side, segment_at, arm_of, steps_of, StartsOn, IsStep}
use Rattle.rl_tables.specs.declared.table.BoxTable.{BoxTable}
use Rattle.rl_tables.specs.declared.table.NextRow.{NextRow}
use Rattle.rl_tables.specs.declared.table.StepRow.{StepRow}
use Rattle.rl_tables.specs.declared.table.TrainTable.{TrainTable}
use Rattle.rl_tables.specs.declared.table.Tables.{Tables}

-- a list of so many items, of which the one at place k is what belongs there
pub record IsListOf {A : Type 0} (count : ℕ) (Belongs : ℕ → A → Type 0) (xs : List A) : Type 0 where
  pub length_is : length xs ≡ count
  pub each : (k : ℕ) (x : A) → slice_get xs k ≡ Some x → Belongs k x

-- the segment at arm i in the table of a box
abbrev pub segment_in : BoxTable → ℕ → Option SegId
segment_in x zero = x.seg0
segment_in x (suc zero) = x.seg1
segment_in x (suc (suc zero)) = x.seg2
segment_in x (suc (suc (suc zero))) = x.seg3
segment_in x (suc (suc (suc (suc i)))) = None

-- the number of that segment
abbrev pub segment_number : BoxTable → ℕ → Option ℕ
segment_number x i = option_map (λ (s : SegId). s.0) (segment_in x i)

-- the table of box b has its number, its kind, the side at which it stands at the start, and the segment at each arm
pub record IsBoxTable (net : NetworkPlan) (b : ℕ) (x : BoxTable) : Type 0 where
  pub number : x.number.0 ≡ b
  pub kind : x.kind ≡ kind_of net b
  pub side : x.side ≡ start_side net b
  pub segments : (i : ℕ) → segment_number x i ≡ segment_at net b i

-- segment s has an end at box far, which is not b, and there it is this arm
pub record IsOtherEnd (net : NetworkPlan) (s b far arm : ℕ) : Type 0 where
  pub apart : far ≢ b
  pub there : arm_of net s far ≡ Some arm

-- step k of train t goes from s to s2, and the step after it through b2 to s3, which isn't s; b2_arm is the arm of s3 at
-- b2, and c2 and c2_arm are the other end of s3
pub record IsNextRow (net : NetworkPlan) (t k s s2 : ℕ) (n : NextRow) : Type 0 where
  pub step : IsStep net t (k + 1) s2 n.b2.0 n.s3.0
  pub apart : n.s3.0 ≢ s
  pub near : arm_of net n.s3.0 n.b2.0 ≡ Some n.b2_arm.0
  pub far : IsOtherEnd net n.s3.0 n.b2.0 n.c2.0 n.c2_arm.0

-- step k of train t, from s to s2, looks ahead to this; to nothing exactly where no step comes after it but one back to s
abbrev pub LooksAheadTo : (net : NetworkPlan) (t k s s2 : ℕ) → Option NextRow → Type 0
LooksAheadTo net t k s s2 None = (b2 s3 : ℕ) → IsStep net t (k + 1) s2 b2 s3 → s3 ≡ s
LooksAheadTo net t k s s2 (Some n) = IsNextRow net t k s s2 n

-- the row of step k of train t: the step goes from s through b to s2, x and y are the arms of s and s2 at b,
-- c and c_arm are the other end of s2, a and a_arm that of s, and next is what it looks ahead to
pub record IsStepRow (net : NetworkPlan) (t k : ℕ) (row : StepRow) : Type 0 where
  pub step : IsStep net t k row.s.0 row.b.0 row.s2.0
  pub x : arm_of net row.s.0 row.b.0 ≡ Some row.x.0
  pub y : arm_of net row.s2.0 row.b.0 ≡ Some row.y.0
  pub far : IsOtherEnd net row.s2.0 row.b.0 row.c.0 row.c_arm.0
  pub back : IsOtherEnd net row.s.0 row.b.0 row.a.0 row.a_arm.0
  pub next : LooksAheadTo net t k row.s.0 row.s2.0 row.next

-- the table of train t has its number, the segment on which it starts, and the rows of its steps in order
pub record IsTrainTable (net : NetworkPlan) (t : ℕ) (x : TrainTable) : Type 0 where
  pub number : x.number.0 ≡ t
  pub first : StartsOn net t x.first.0
  pub rows : IsListOf (steps_of net t) (IsStepRow net t) x.rows

-- the tables of all boxes and all trains, each at the place of its number
pub record AreTablesOf (net : NetworkPlan) (tables : Tables) : Type 0 where
  pub boxes : IsListOf (length net.boxes) (IsBoxTable net) tables.boxes
  pub trains : IsListOf (length net.trains) (IsTrainTable net) tables.trains
