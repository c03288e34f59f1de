-- The tables of a network are a line.
use Rattle.std.proofs.Common.{◌≡◌, ℕ, ◌+◌, zero, suc, ◌<◌, ◌≢◌, true, subst, List, [], ◌∷◌, length, slice_get, Option, Some, None, option_and_then, refl, sym, ap, ◌∙◌, arith}
use Rattle.std.specs.Prelude.{is_some, option_map, nat_lt}
use Rattle.std.specs.Option.{option_map_or}
use Rattle.std.proofs.lemmas.Bool.{le-ltb, lt-ltb}
use Rattle.std.proofs.lemmas.Bool.Decides.{nat_tests}
use Rattle.std.proofs.lemmas.Option.{same_Some, option_and_then_some, slice_get_within}
use Rattle.rl_base.specs.declared.ids.BoxId.{BoxId}
use Rattle.rl_base.specs.declared.ids.SegId.{SegId}
use Rattle.rl_base.specs.declared.kind.Kind.{Kind}
use Rattle.rl_base.specs.declared.kind.Kind.TheVariants.{Buffer}
use Rattle.rl_base.specs.declared.kind.Side.TheVariants.{Left}
use Rattle.rl_base.specs.Kind.{arms_of}
use Rattle.rl_model.specs.declared.network.SwitchBox.{SwitchBox}
use Rattle.rl_model.specs.declared.network.Train.{Train}
use Rattle.rl_model.specs.declared.network.NetworkPlan.{NetworkPlan}
use Rattle.rl_model.specs.Network as net
use Rattle.rl_model.specs.Network.{IsNetwork, route_segment, route_box, steps_of, arm_of, start_side}
use Rattle.rl_tables.specs.declared.table.BoxTable.{BoxTable}
use Rattle.rl_tables.specs.declared.table.NextRow.{NextRow}
use Rattle.rl_tables.specs.declared.table.StepRow.{StepRow}
use Rattle.rl_tables.specs.declared.table.TrainTable.{TrainTable}
use Rattle.rl_tables.specs.declared.table.Tables.{Tables}
use Rattle.rl_tables.specs.Tables.{segment_in, IsListOf, IsBoxTable, IsNextRow, LooksAheadTo, IsStepRow, IsTrainTable, AreTablesOf}
use Rattle.rl_tables.specs.Kept.{line_kind, line_segment, can_join, IsArm, IsOnlyAt, HasEnds, IsBox, IsRow, next_in, IsAhead, IsTrain, IsLine}
use Rattle.rl_tables.proofs.ListsOf.{there}
use Rattle.rl_tables.proofs.Ends.{end_of, are_ends, only_two}
use Rattle.rl_tables.proofs.Only.{same_next_row}
use Rattle.rl_tables.proofs.Rows.{few_steps, connected, arms_joined, arms_apart}

-- a list has an item at each place below its length
some_below : {A : Type 0} (xs : List A) (i : ℕ) → is_some (slice_get xs i) ≡ nat_lt i (length xs)
some_below [] i = sym (le-ltb i 0 (omega arith))
some_below (x ∷ xs) zero = sym (lt-ltb 0 (length (x ∷ xs)) (omega arith))
some_below (x ∷ xs) (suc i) = some_below xs i ∙ one_less i (length xs)
  where
    one_less : (a b : ℕ) → nat_lt a b ≡ nat_lt (suc a) (suc b)
    one_less a b = grind (arith, nat_tests)

some_mapped : (o : Option SegId) → is_some (option_map (λ (s : SegId). s.0) o) ≡ is_some o
some_mapped None = refl
some_mapped (Some s) = refl

is_box : (n : NetworkPlan) (b : ℕ) (x : BoxTable) → IsNetwork n → b < length n.boxes → IsBoxTable n b x → IsBox b x
is_box n b x network within is =
    let found = there n.boxes b within in
    let y = found.0 in
    let part = network.boxes b y found.1 in
    let kind : x.kind ≡ y.kind = is.kind ∙ ap (λ (o : Option SwitchBox). option_map_or (λ (z : SwitchBox). z.kind) o Buffer) found.1 in
    let side : x.side ≡ y.side = is.side ∙ ap (λ (o : Option SwitchBox). option_map_or (λ (z : SwitchBox). z.side) o Left) found.1 in
    record {
      number = is.number;
      arms = λ i.
          sym (some_mapped (segment_in x i))
          ∙ ap (λ (o : Option ℕ). is_some o) (is.segments i)
          ∙ ap (λ (o : Option SwitchBox). is_some (option_and_then (λ (z : SwitchBox). option_map (λ (s : SegId). s.0) (slice_get z.arms i)) o)) found.1
          ∙ some_mapped (slice_get y.arms i)
          ∙ some_below y.arms i
          ∙ ap (nat_lt i) (part.arms ∙ sym (ap arms_of kind));
      side = λ other. side ∙ part.side (λ e. other (kind ∙ e));
    }

-- a box has in its table the kind and the segments that it has in the network
same_kind : (n : NetworkPlan) (tables : Tables) (b : ℕ) → AreTablesOf n tables → b < length n.boxes → line_kind tables b ≡ net.kind_of n b
same_kind n tables b are within =
    let count = are.boxes.length_is in
    let found = there tables.boxes b (omega arith) in
    rw found.1 ((are.boxes.each b found.0 found.1).kind)

same_segment : (n : NetworkPlan) (tables : Tables) (b i : ℕ) → AreTablesOf n tables → b < length n.boxes → line_segment tables b i ≡ net.segment_at n b i
same_segment n tables b i are within =
    let count = are.boxes.length_is in
    let found = there tables.boxes b (omega arith) in
    rw found.1 ((are.boxes.each b found.0 found.1).segments i)

-- the arm of a segment at a box is one in the tables too
is_arm : (n : NetworkPlan) (tables : Tables) (b x s : ℕ) → IsNetwork n → AreTablesOf n tables → arm_of n s b ≡ Some x → IsArm tables b x s
is_arm n tables b x s network are at =
    let end = end_of n s b x network at in
    let count = are.boxes.length_is in
    record {
      box = let within = end.box in omega arith;
      among = subst (λ (k : Kind). x < arms_of k) (sym (same_kind n tables b are end.box)) end.among;
      segment = same_segment n tables b x are end.box ∙ end.names;
    }

-- an arm of the tables is the arm of its segment at the box
arm_named : (n : NetworkPlan) (tables : Tables) (d z s : ℕ) → IsNetwork n → AreTablesOf n tables → IsArm tables d z s → arm_of n s d ≡ Some z
arm_named n tables d z s network are a =
    let count = are.boxes.length_is in
    let within : d < length n.boxes = let box = a.box in omega arith in
    let found = there n.boxes d within in
    (network.boxes d found.0 found.1).segments z s (sym (same_segment n tables d z are within) ∙ a.segment)

-- a segment with arms at two boxes is at no other arm
only_at : (n : NetworkPlan) (tables : Tables) (s b x c y : ℕ) → IsNetwork n → AreTablesOf n tables → arm_of n s b ≡ Some x → arm_of n s c ≡ Some y → c ≢ b
    → IsOnlyAt tables s b x c y
only_at n tables s b x c y network are at_b at_c apart = λ d z a. only_two n s b x c y d z at_b at_c apart (arm_named n tables d z s network are a)

-- a segment of the network has two ends
has_ends : (n : NetworkPlan) (tables : Tables) (s : ℕ) → IsNetwork n → AreTablesOf n tables → s < length n.segments → HasEnds tables s
has_ends n tables s network are within =
    let found = there n.segments s within in
    let g = found.0 in
    let ends = are_ends n s g network found.1 in
    let apart : g.high.at.0 ≢ g.low.at.0 = λ e. ends.apart (sym e) in
    record {
      b = g.low.at.0;
      x = g.low.arm.0;
      c = g.high.at.0;
      y = g.high.arm.0;
      one = is_arm n tables g.low.at.0 g.low.arm.0 s network are ends.at_low;
      other = is_arm n tables g.high.at.0 g.high.arm.0 s network are ends.at_high;
      apart = apart;
      only = only_at n tables s g.low.at.0 g.low.arm.0 g.high.at.0 g.high.arm.0 network are ends.at_low ends.at_high apart;
    }

is_row : (n : NetworkPlan) (tables : Tables) (t k : ℕ) (row : StepRow) → IsNetwork n → AreTablesOf n tables → t < length n.trains → IsStepRow n t k row
    → IsRow tables row
is_row n tables t k row network are within is =
    let fits = connected n t k row.s.0 row.b.0 row.s2.0 network within is.step in
    let joins = arms_joined n row.b.0 row.s.0 row.s2.0 row.x.0 row.y.0 is.x is.y fits in
    let box = (end_of n row.s.0 row.b.0 row.x.0 network is.x).box in
    let apart = arms_apart (net.kind_of n row.b.0) row.x.0 row.y.0 joins in
    record {
      apart = λ e. apart (same_Some row.x.0 row.y.0 (sym is.x ∙ ap (λ s. arm_of n s row.b.0) e ∙ is.y));
      joined = subst (λ (kind : Kind). can_join kind row.x.0 row.y.0 ≡ true) (sym (same_kind n tables row.b.0 are box)) joins;
      arms_apart = apart;
      near = is_arm n tables row.b.0 row.y.0 row.s2.0 network are is.y;
      far = is_arm n tables row.c.0 row.c_arm.0 row.s2.0 network are is.far.there;
      far_apart = is.far.apart;
      far_only = only_at n tables row.s2.0 row.b.0 row.y.0 row.c.0 row.c_arm.0 network are is.y is.far.there is.far.apart;
      here = is_arm n tables row.b.0 row.x.0 row.s.0 network are is.x;
      back = is_arm n tables row.a.0 row.a_arm.0 row.s.0 network are is.back.there;
      back_apart = is.back.apart;
      back_only = only_at n tables row.s.0 row.b.0 row.x.0 row.a.0 row.a_arm.0 network are is.x is.back.there is.back.apart;
    }

-- a box of the route belongs to one of its steps
step_there : (n : NetworkPlan) (t k b : ℕ) → route_box n t k ≡ Some b → k < steps_of n t
step_there n t k b h =
    option_and_then_some (λ (r : Train). option_map (λ (c : BoxId). c.0) (slice_get r.boxes k)) (slice_get n.trains t) b h
    (λ r found at. rw found (within r.boxes (slice_get r.boxes k) refl at))
  where
    within : (boxes : List BoxId) (o : Option BoxId) → slice_get boxes k ≡ o → option_map (λ (c : BoxId). c.0) o ≡ Some b → k < length boxes
    within boxes None is e = absurd (cc)
    within boxes (Some c) is e = slice_get_within boxes k c is

-- what a step looks ahead to is in the row after it
is_ahead : (n : NetworkPlan) (t k : ℕ) (rows : List StepRow) (row : StepRow) (m : NextRow) → IsListOf (steps_of n t) (IsStepRow n t) rows
    → IsNextRow n t k row.s.0 row.s2.0 m → IsAhead rows k row m
is_ahead n t k rows row m are ahead =
    let count = are.length_is in
    let below = step_there n t (k + 1) m.b2.0 ahead.step.through in
    let found = there rows (k + 1) (omega arith) in
    let after = found.0 in
    let is = are.each (k + 1) after found.1 in
    let apart : after.s2.0 ≢ row.s.0 = λ e. ahead.apart (same_Some m.s3.0 after.s2.0 (sym ahead.step.to ∙ is.step.to) ∙ e) in
    let seen : IsNextRow n t k row.s.0 row.s2.0 (next_in after) =
    record { step = record { from = ahead.step.from; through = is.step.through; to = is.step.to }; apart = apart; near = is.y; far = is.far } in
    record { after = after; there = found.1; next_is = same_next_row n t k row.s.0 row.s2.0 m (next_in after) ahead seen; apart = apart }

is_train : (n : NetworkPlan) (tables : Tables) (t : ℕ) (x : TrainTable) → IsNetwork n → AreTablesOf n tables → t < length n.trains → IsTrainTable n t x
    → IsTrain tables t x
is_train n tables t x network are within is =
    record {
      number = is.number;
      short = rw is.rows.length_is (few_steps n t network within);
      rows = λ k row at. is_row n tables t k row network are within (is.rows.each k row at);
      starts =
          let found = there n.trains t within in
          has_ends n tables x.first.0 network are ((network.trains t found.0 found.1).segments 0 x.first.0 is.first);
      first = λ row at. same_Some row.s.0 x.first.0 (sym (is.rows.each 0 row at).step.from ∙ is.first);
      chained = λ k row next at after. same_Some next.s.0 row.s2.0 (sym (is.rows.each (k + 1) next after).step.from ∙ (is.rows.each k row at).step.to);
      next = λ k row m at looks. is_ahead n t k x.rows row m is.rows (subst (LooksAheadTo n t k row.s.0 row.s2.0) looks (is.rows.each k row at).next);
    }

pub is_line : (n : NetworkPlan) (tables : Tables) → IsNetwork n → AreTablesOf n tables → IsLine tables
is_line n tables network are =
    let box_count = are.boxes.length_is in
    let train_count = are.trains.length_is in
    let few_boxes = network.few_boxes in
    let few_trains = network.few_trains in
    record {
      few_boxes = omega arith;
      few_trains = omega arith;
      boxes = λ b x at. is_box n b x network (let within = slice_get_within tables.boxes b x at in omega arith) (are.boxes.each b x at);
      trains = λ t x at. is_train n tables t x network are (let within = slice_get_within tables.trains t x at in omega arith) (are.trains.each t x at);
      starts = λ t u x y at at2 same.
          network.starts t u x.first.0 (are.trains.each t x at).first (subst (λ s. net.StartsOn n u s) (sym same) (are.trains.each u y at2).first);
    }
