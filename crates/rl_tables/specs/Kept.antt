-- What every line keeps, whatever its network: sizes within the limits, and rows that make sense in the tables of the
-- boxes.
use Rattle.std.specs.Prelude.{◌≡◌, ℕ, ◌+◌, ◌<◌, ◌≤◌, ◌≢◌, ◌⊎◌, nat_lt, Bool, true, ◌||◌, List, length, slice_get, Option, Some, is_some, option_and_then}
use Rattle.std.specs.Option.{option_map_or}
use Rattle.rl_base.specs.declared.kind.Kind.{Kind}
use Rattle.rl_base.specs.declared.kind.Kind.TheVariants.{Buffer, Point}
use Rattle.rl_base.specs.declared.kind.Side.TheVariants.{Left, Right}
use Rattle.rl_base.specs.declared.limits.TheConstants.{MAX_BOXES, MAX_TRAINS, MAX_STEPS}
use Rattle.rl_base.specs.Kind.{arms_of, arms_join}
use Rattle.rl_tables.specs.declared.table.BoxTable.{BoxTable}
use Rattle.rl_tables.specs.declared.table.NextRow.{NextRow}
use Rattle.rl_tables.specs.declared.table.StepRow.{StepRow}
use Rattle.rl_tables.specs.declared.table.TrainTable.{TrainTable}
use Rattle.rl_tables.specs.declared.table.Tables.{Tables}
use Rattle.rl_tables.specs.Tables.{segment_in, segment_number}

-- the kind of box b; one that isn't there counts as a buffer, which connects nothing
abbrev pub line_kind : Tables → ℕ → Kind
line_kind tables b = option_map_or (λ (x : BoxTable). x.kind) (slice_get tables.boxes b) Buffer

-- the segment at arm i of box b
abbrev pub line_segment : Tables → ℕ → ℕ → Option ℕ
line_segment tables b i = option_and_then (λ (x : BoxTable). segment_number x i) (slice_get tables.boxes b)

-- some side of a box of the kind connects the two arms
abbrev pub can_join : Kind → ℕ → ℕ → Bool
can_join kind x y = arms_join kind x y Left || arms_join kind x y Right

-- the arm is one of box b, and s is the segment there
pub record IsArm (tables : Tables) (b arm s : ℕ) : Type 0 where
  pub box : b < length tables.boxes
  pub among : arm < arms_of (line_kind tables b)
  pub segment : line_segment tables b arm ≡ Some s

-- of the arms of all boxes, segment s is at no other than arm x of box b and arm y of box c
abbrev pub IsOnlyAt : Tables → (s b x c y : ℕ) → Type 0
IsOnlyAt tables s b x c y = (d z : ℕ) → IsArm tables d z s → ((d ≡ b) × (z ≡ x)) ⊎ ((d ≡ c) × (z ≡ y))

-- segment s is at two arms, of different boxes, and at no third
pub record HasEnds (tables : Tables) (s : ℕ) : Type 0 where
  pub b : ℕ
  pub x : ℕ
  pub c : ℕ
  pub y : ℕ
  pub one : IsArm tables b x s
  pub other : IsArm tables c y s
  pub apart : c ≢ b
  pub only : IsOnlyAt tables s b x c y

-- the box has a segment at each arm that its kind has, and at no other, and stands at left if it is no point
pub record IsBox (b : ℕ) (x : BoxTable) : Type 0 where
  pub number : x.number.0 ≡ b
  pub arms : (i : ℕ) → is_some (segment_in x i) ≡ nat_lt i (arms_of x.kind)
  pub side : x.kind ≢ Point → x.side ≡ Left

-- the two segments of a step differ, its box can connect them, and their other ends are at other boxes. Each of them is
-- at the two arms that the row names for it, and at no third
pub record IsRow (tables : Tables) (row : StepRow) : Type 0 where
  pub apart : row.s.0 ≢ row.s2.0
  pub joined : can_join (line_kind tables row.b.0) row.x.0 row.y.0 ≡ true
  pub arms_apart : row.x.0 ≢ row.y.0
  pub near : IsArm tables row.b.0 row.y.0 row.s2.0
  pub far : IsArm tables row.c.0 row.c_arm.0 row.s2.0
  pub far_apart : row.c.0 ≢ row.b.0
  pub far_only : IsOnlyAt tables row.s2.0 row.b.0 row.y.0 row.c.0 row.c_arm.0
  pub here : IsArm tables row.b.0 row.x.0 row.s.0
  pub back : IsArm tables row.a.0 row.a_arm.0 row.s.0
  pub back_apart : row.a.0 ≢ row.b.0
  pub back_only : IsOnlyAt tables row.s.0 row.b.0 row.x.0 row.a.0 row.a_arm.0

-- the segment to which a row goes, with its two ends, as the row before it sees it
abbrev pub next_in : StepRow → NextRow
next_in row = record { s3 = row.s2; b2 = row.b; b2_arm = row.y; c2 = row.c; c2_arm = row.c_arm }

-- the row at place k of the rows looks ahead to the segment to which the row after it goes, which isn't its own
pub record IsAhead (rows : List StepRow) (k : ℕ) (row : StepRow) (n : NextRow) : Type 0 where
  pub after : StepRow
  pub there : slice_get rows (k + 1) ≡ Some after
  pub next_is : n ≡ next_in after
  pub apart : after.s2.0 ≢ row.s.0

-- a train has no more steps than a route may have, the first from its first segment, and each next from where the one
-- before ends. Its first segment has two ends, also where it makes no step. What a row looks ahead to is in the row after
-- it
pub record IsTrain (tables : Tables) (t : ℕ) (x : TrainTable) : Type 0 where
  pub number : x.number.0 ≡ t
  pub short : length x.rows ≤ MAX_STEPS
  pub rows : (k : ℕ) (row : StepRow) → slice_get x.rows k ≡ Some row → IsRow tables row
  pub starts : HasEnds tables x.first.0
  pub first : (row : StepRow) → slice_get x.rows 0 ≡ Some row → row.s.0 ≡ x.first.0
  pub chained : (k : ℕ) (row next : StepRow) → slice_get x.rows k ≡ Some row → slice_get x.rows (k + 1) ≡ Some next
      → next.s.0 ≡ row.s2.0
  pub next : (k : ℕ) (row : StepRow) (n : NextRow) → slice_get x.rows k ≡ Some row → row.next ≡ Some n
      → IsAhead x.rows k row n

-- no more boxes and trains than a network may have, each right in itself, and no two trains start on one segment
pub record IsLine (tables : Tables) : Type 0 where
  pub few_boxes : length tables.boxes ≤ MAX_BOXES
  pub few_trains : length tables.trains ≤ MAX_TRAINS
  pub boxes : (b : ℕ) (x : BoxTable) → slice_get tables.boxes b ≡ Some x → IsBox b x
  pub trains : (t : ℕ) (x : TrainTable) → slice_get tables.trains t ≡ Some x → IsTrain tables t x
  pub starts : (t u : ℕ) (x y : TrainTable) → slice_get tables.trains t ≡ Some x → slice_get tables.trains u ≡ Some y
      → x.first.0 ≡ y.first.0 → t ≡ u
