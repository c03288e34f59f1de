-- The numbers in the tables of a network are the network's.
use Rattle.std.proofs.Common.{◌≡◌, ℕ, ◌<◌, ◌≤◌, List, length, get_or, slice_get, Option, Some, None, refl, sym, arith}
use Rattle.std.specs.Prelude.{option_map, IfSome}
use Rattle.std.proofs.lemmas.Option.{option_and_then_some, slice_get_within, slice_get_read}
use Rattle.rl_base.specs.declared.limits.TheConstants.{MAX_STEPS}
use Rattle.rl_base.specs.declared.ids.SegId.{SegId}
use Rattle.rl_model.specs.declared.network.SwitchBox.{SwitchBox}
use Rattle.rl_model.specs.declared.network.NetworkPlan.{NetworkPlan}
use Rattle.rl_model.specs.Network.{IsSegmentOf, segment_at, IsNetwork}
use Rattle.rl_tables.specs.declared.table.BoxTable.{BoxTable}
use Rattle.rl_tables.specs.declared.table.StepRow.{StepRow}
use Rattle.rl_tables.specs.declared.table.TrainTable.{TrainTable}
use Rattle.rl_tables.specs.declared.table.Tables.{Tables}
use Rattle.rl_tables.specs.Tables.{segment_in, IsBoxTable, IsStepRow, AreTablesOf}
use Rattle.rl_tables.specs.Ranges.{IsRowOf}
use Rattle.rl_tables.proofs.Ends.{end_of}
use Rattle.rl_tables.proofs.Rows.{few_steps}

-- the segment at an arm is there
segment_there : (net : NetworkPlan) (b i s : ℕ) → IsNetwork net → segment_at net b i ≡ Some s → s < length net.segments
segment_there net b i s network h =
    option_and_then_some (λ (x : SwitchBox). option_map (λ (g : SegId). g.0) (slice_get x.arms i)) (slice_get net.boxes b) s h
    (λ x found at. (end_of net s b i network ((network.boxes b x found).segments i s h)).segment)

pub segments_there : (net : NetworkPlan) (b i : ℕ) (x : BoxTable) → IsNetwork net → IsBoxTable net b x → IfSome (segment_in x i) (IsSegmentOf net)
segments_there net b i x network is = each (segment_in x i) (is.segments i)
  where
    each : (o : Option SegId) → option_map (λ (s : SegId). s.0) o ≡ segment_at net b i → IfSome o (IsSegmentOf net)
    each None h = tt
    each (Some s) h = segment_there net b i s.0 network (sym h)

-- the segments and boxes of a row are there
pub row_there : (net : NetworkPlan) (t k : ℕ) (row : StepRow) → IsNetwork net → IsStepRow net t k row → IsRowOf net row
row_there net t k row network is =
    let here = end_of net row.s.0 row.b.0 row.x.0 network is.x in
    let near = end_of net row.s2.0 row.b.0 row.y.0 network is.y in
    record {
      from = here.segment;
      to = near.segment;
      through = here.box;
      far = (end_of net row.s2.0 row.c.0 row.c_arm.0 network is.far.there).box;
      back = (end_of net row.s.0 row.a.0 row.a_arm.0 network is.back.there).box;
    }

-- a train of the tables is there, and so are its rows
pub record IsThere (net : NetworkPlan) (x : TrainTable) : Type 0 where
  pub train : x.number.0 < length net.trains
  pub short : length x.rows ≤ MAX_STEPS
  pub rows : (k : ℕ) (row : StepRow) → slice_get x.rows k ≡ Some row → IsRowOf net row

pub train_there : (net : NetworkPlan) (tables : Tables) (t : ℕ) (x : TrainTable) → IsNetwork net → AreTablesOf net tables → slice_get tables.trains t ≡ Some x
    → IsThere net x
train_there net tables t x network are found =
    let is = are.trains.each t x found in
    let number = is.number in
    let count = are.trains.length_is in
    let within = slice_get_within tables.trains t x found in
    let inside : t < length net.trains = omega arith in
    record {
      train = omega arith;
      short = rw is.rows.length_is (few_steps net t network inside);
      rows = λ k row at. row_there net t k row network (is.rows.each k row at);
    }

-- the item of a loop over a list
pub item_there : {A : Type 0} (xs ys : List A) (i : ℕ) (x : A) → ys ≡ xs → i < length ys → x ≡ get_or ys i x → slice_get xs i ≡ Some x
item_there xs ys i x same within is = rw (← same) (slice_get_read ys (length ys) i x refl within is)
