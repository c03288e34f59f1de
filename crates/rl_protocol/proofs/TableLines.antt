-- The line that tables say is consistent, and is the line of their network.
use Rattle.std.proofs.Common.{◌≡◌, ◌≢◌, ℕ, zero, suc, ◌+◌, ◌<◌, ◌≤◌, ◌==◌, Bool, true, false, cond, ◌&&◌, ◌||◌, List, [], ◌∷◌, length, slice_get, Option, Some}
use Rattle.std.proofs.Common.{None, option_and_then, refl, sym, ap, ◌∙◌, subst, ⊎_elim, arith}
use Rattle.std.specs.Prelude.{is_some, option_map, unwrap_or, find}
use Rattle.std.specs.Option.{option_map_or}
use Rattle.std.proofs.lemmas.Bool.{false≢true, eq-eqb, eqb-true, ltb-true, lt-ltb, and_from, or_left, or_right, or_cases, and_parts, cases_lt}
use Rattle.std.proofs.lemmas.Option.{option_and_then_some, slice_get_within, slice_get_past, same_Some}
use Rattle.std.proofs.lemmas.Bool.Decides.{nat_tests}
use Rattle.rl_base.specs.declared.ids.SegId.{SegId}
use Rattle.rl_base.specs.declared.kind.Kind.TheVariants.{Buffer}
use Rattle.rl_base.specs.declared.kind.Side.TheVariants.{Left}
use Rattle.rl_base.specs.Kind.{arms_of}
use Rattle.rl_model.specs.declared.network.SwitchBox.{SwitchBox}
use Rattle.rl_model.specs.declared.network.Train.{Train}
use Rattle.rl_model.specs.declared.network.NetworkPlan.{NetworkPlan}
use Rattle.rl_model.specs.Network.{kind_of, start_side, segment_at, steps_of, route_segment, IsStep, IsNetwork}
use Rattle.rl_tables.specs.declared.table.BoxTable.{BoxTable}
use Rattle.rl_tables.specs.declared.table.NextRow.{NextRow}
use Rattle.rl_tables.specs.declared.table.StepRow.{StepRow}
use Rattle.rl_tables.specs.declared.table.TrainTable.{TrainTable}
use Rattle.rl_tables.specs.declared.table.Tables.{Tables}
use Rattle.rl_tables.specs.Kept.{line_segment, IsArm, IsOnlyAt, next_in, IsAhead, IsLine}
use Rattle.rl_tables.specs.Tables.{segment_in, segment_number, AreTablesOf, IsStepRow}
use Rattle.rl_tables.specs.Starts.{starter_of}
use Rattle.rl_train.specs.Jobs.{looks_ahead}
use Rattle.rl_protocol.specs.Line.{is_number, same_number, is_held_by, IsStepOf, IsConsistent}
use Rattle.rl_protocol.specs.Worlds.{IsLineOf, IsRailway}
use Rattle.rl_protocol.specs.Counts.{HasTrains}
use Rattle.rl_protocol.specs.TableLine.{segment_of_route, route_of, no_row, line_of}

-- an item that isn't there is no place of the list
none_within : {A : Type 0} (xs : List A) (k : ℕ) → slice_get xs k ≡ None → k < length xs → ⊥
none_within [] k h l = omega arith
none_within (y ∷ ys) zero h l = cc
none_within (y ∷ ys) (suc k) h l = none_within ys k h (omega arith)

-- two tests that pass for the same reasons are the same
same_test : (p q : Bool) → (p ≡ true → q ≡ true) → (q ≡ true → p ≡ true) → p ≡ q
same_test true q h k = sym (h refl)
same_test false true h k = k refl
same_test false false h k = refl

-- a train and its row that are there
row_there : (tables : Tables) (t k : ℕ) → k < (line_of tables).steps t
    → (x : TrainTable) × (row : StepRow) × (slice_get tables.trains t ≡ Some x) × (slice_get x.rows k ≡ Some row) × ((line_of tables).row t k ≡ row)
row_there tables t k h = of (slice_get tables.trains t) refl h
  where
    in_list : (rows : List StepRow) (j : ℕ) → j < length rows → (row : StepRow) × (slice_get rows j ≡ Some row)
    in_list [] j h = absurd (omega arith)
    in_list (r ∷ rows) zero h = (r, refl)
    in_list (r ∷ rows) (suc j) h = in_list rows j (omega arith)

    of : (o : Option TrainTable) → slice_get tables.trains t ≡ o → k < option_map_or (λ (x : TrainTable). length x.rows) o 0
        → (x : TrainTable) × (row : StepRow) × (slice_get tables.trains t ≡ Some x) × (slice_get x.rows k ≡ Some row)
        × (unwrap_or (option_and_then (λ (x : TrainTable). slice_get x.rows k) (slice_get tables.trains t)) no_row ≡ row)
    of None e h = absurd (omega arith)
    of (Some x) e h =
        let there = in_list x.rows k h in (
          x,
          there.0,
          e,
          there.1,
          ap (λ o. unwrap_or (option_and_then (λ (x : TrainTable). slice_get x.rows k) o) no_row) e
              ∙ ap (λ o. unwrap_or o no_row) there.1,
        )

-- the route of a train that is there
route_is : (tables : Tables) (t k : ℕ) (x : TrainTable) → slice_get tables.trains t ≡ Some x → route_of tables t k ≡ segment_of_route x k
route_is tables t k x e = ap (option_and_then (λ (x : TrainTable). segment_of_route x k)) e

-- the segment where a step begins, and where it goes
from_is : (tables : Tables) (t k : ℕ) (x : TrainTable) (row : StepRow) → IsLine tables → slice_get tables.trains t ≡ Some x → slice_get x.rows k ≡ Some row
    → segment_of_route x k ≡ Some row.s.0
from_is tables t zero x row line e f = ap (λ n. Some n) (sym ((line.trains t x e).first row f))
from_is tables t (suc j) x row line e f =
    let before = earlier x.rows j row f in
    ap (option_map (λ (r : StepRow). r.s2.0)) before.1
    ∙ ap (λ n. Some n) (sym ((line.trains t x e).chained j before.0 row before.1 (subst (λ n. slice_get x.rows n ≡ Some row) (next_of j) f)))
  where
    next_of : (n : ℕ) → suc n ≡ n + 1
    next_of n = omega arith

    earlier : (rows : List StepRow) (j : ℕ) (row : StepRow) → slice_get rows (suc j) ≡ Some row → (r : StepRow) × (slice_get rows j ≡ Some r)
    earlier [] j row h = absurd (cc)
    earlier (r ∷ rows) zero row h = (r, refl)
    earlier (r ∷ rows) (suc j) row h = earlier rows j row h

to_is : (x : TrainTable) (k : ℕ) (row : StepRow) → slice_get x.rows k ≡ Some row → segment_of_route x (k + 1) ≡ Some row.s2.0
to_is x k row f = ap (segment_of_route x) (next_of k) ∙ ap (option_map (λ (r : StepRow). r.s2.0)) f
  where
    next_of : (n : ℕ) → n + 1 ≡ suc n
    next_of n = omega arith

-- a segment at a place is at an arm of its box
arm_is : (tables : Tables) (b x s : ℕ) → IsLine tables → line_segment tables b x ≡ Some s → IsArm tables b x s
arm_is tables b x s line h =
    option_and_then_some (λ (y : BoxTable). segment_number y x) (slice_get tables.boxes b) s h
    (λ y there is. record {
      box = slice_get_within tables.boxes b y there;
      among = subst (λ k. x < arms_of k) (sym (ap (λ o. option_map_or (λ (z : BoxTable). z.kind) o Buffer) there))
          (ltb-true x (arms_of y.kind) (sym ((line.boxes b y there).arms x) ∙ some_in (segment_in y x) s is));
      segment = h;
    })
  where
    some_in : (o : Option SegId) (n : ℕ) → option_map (λ (z : SegId). z.0) o ≡ Some n → is_some o ≡ true
    some_in None n h = absurd (cc)
    some_in (Some z) n h = refl

-- a segment that is at two places and no other is at a place exactly where that is one of them
only_places : (tables : Tables) (s c d : ℕ) (x y : ℕ) → IsLine tables → IsArm tables c x s → IsArm tables d y s → IsOnlyAt tables s c x d y → (b z : ℕ)
    → same_number (line_segment tables b z) (Some s) ≡ ((c == b && x == z) || (d == b && y == z))
only_places tables s c d x y line one other only b z = same_test _ _ there back
  where
    is_there : (o : Option ℕ) → same_number o (Some s) ≡ true → o ≡ Some s
    is_there None h = absurd (false≢true h)
    is_there (Some n) h = ap (λ m. Some m) (sym (eqb-true s n h))

    there : same_number (line_segment tables b z) (Some s) ≡ true → ((c == b && x == z) || (d == b && y == z)) ≡ true
    there h =
        ⊎_elim (λ e. or_left _ _ (and_from _ _ (eq-eqb c b (sym e.0)) (eq-eqb x z (sym e.1))))
        (λ e. or_right _ _ (and_from _ _ (eq-eqb d b (sym e.0)) (eq-eqb y z (sym e.1))))
        (only b z (arm_is tables b z s line (is_there (line_segment tables b z) h)))

    at_place : (e f : ℕ) → line_segment tables e f ≡ Some s → (e == b && f == z) ≡ true → same_number (line_segment tables b z) (Some s) ≡ true
    at_place e f is h =
        let parts = and_parts _ _ h in
        subst (λ n. same_number (line_segment tables n z) (Some s) ≡ true) (eqb-true e b parts.0)
        (subst (λ n. same_number (line_segment tables e n) (Some s) ≡ true) (eqb-true f z parts.1)
        (ap (λ o. same_number o (Some s)) is ∙ eq-eqb s s refl))

    back : ((c == b && x == z) || (d == b && y == z)) ≡ true → same_number (line_segment tables b z) (Some s) ≡ true
    back h = ⊎_elim (λ e. at_place c x one.segment e) (λ e. at_place d y other.segment e) (or_cases _ _ h)

-- a place has one segment
one_segment : (o : Option ℕ) (s s2 : ℕ) → s ≢ s2 → same_number o (Some s) ≡ true → same_number o (Some s2) ≡ false
one_segment None s s2 apart h = refl
one_segment (Some n) s s2 apart h = grind (arith, nat_tests)

-- the row of a train that is there
row_at : (tables : Tables) (t k : ℕ) (x : TrainTable) (row : StepRow) → slice_get tables.trains t ≡ Some x → slice_get x.rows k ≡ Some row
    → (line_of tables).row t k ≡ row
row_at tables t k x row e f =
    ap (λ o. unwrap_or (option_and_then (λ (x : TrainTable). slice_get x.rows k) o) no_row) e ∙ ap (λ o. unwrap_or o no_row) f

-- a row that looks ahead looks at the row after it
ahead_is : (tables : Tables) (t k : ℕ) (x : TrainTable) (row : StepRow) → IsLine tables → slice_get tables.trains t ≡ Some x → slice_get x.rows k ≡ Some row
    → looks_ahead row ≡ true → (n : NextRow) × IsAhead x.rows k row n
ahead_is tables t k x row line e f looks = of row.next refl looks
  where
    of : (o : Option NextRow) → row.next ≡ o → is_some o ≡ true → (n : NextRow) × IsAhead x.rows k row n
    of None g h = absurd (false≢true h)
    of (Some n) g h = (n, (line.trains t x e).next k row n f g)

row_is : (tables : Tables) (t k : ℕ) → IsLine tables → k < (line_of tables).steps t → IsStepOf (line_of tables) t k ((line_of tables).row t k)
row_is tables t k line h =
    let there = row_there tables t k h in
    let x = there.0 in
    let row = there.1 in
    let is = (line.trains t x there.2).rows k row there.3 in
    let from : route_of tables t k ≡ Some row.s.0 = route_is tables t k x there.2 ∙ from_is tables t k x row line there.2 there.3 in
    let to : route_of tables t (k + 1) ≡ Some row.s2.0 = route_is tables t (k + 1) x there.2 ∙ to_is x k row there.3 in
    subst (λ r. IsStepOf (line_of tables) t k r) (sym there.4)
    (record {
      here = λ b z. ap (same_number (line_segment tables b z)) from
          ∙ only_places tables row.s.0 row.b.0 row.a.0 row.x.0 row.a_arm.0 line is.here is.back is.back_only b z;
      ahead = λ b z. ap (same_number (line_segment tables b z)) to
          ∙ only_places tables row.s2.0 row.b.0 row.c.0 row.y.0 row.c_arm.0 line is.near is.far is.far_only b z;
      apart = λ b z h. ap (same_number (line_segment tables b z)) to
          ∙ one_segment (line_segment tables b z) row.s.0 row.s2.0 is.apart (sym (ap (same_number (line_segment tables b z)) from) ∙ h);
      back_apart = is.back_apart;
      far_apart = is.far_apart;
      joined = is.joined;
      next_is = λ n looks.
          let ahead = (line.trains t x there.2).next k row n there.3 looks in
          ahead.next_is ∙ ap next_in (sym (row_at tables t (k + 1) x ahead.after there.2 ahead.there));
      more = λ looks.
          let ahead = (ahead_is tables t k x row line there.2 there.3 looks).1 in
          subst (λ n. k + 1 < n) (sym (steps_of_table x there.2)) (slice_get_within x.rows (k + 1) ahead.after ahead.there);
      beyond_apart = λ looks b z h.
          let ahead = (ahead_is tables t k x row line there.2 there.3 looks).1 in
          let beyond : route_of tables t (k + 2) ≡ Some ahead.after.s2.0 =
          ap (route_of tables t) (two k) ∙ route_is tables t (k + 1 + 1) x there.2 ∙ to_is x (k + 1) ahead.after ahead.there in
          ap (same_number (line_segment tables b z)) beyond
          ∙ one_segment (line_segment tables b z) row.s.0 ahead.after.s2.0 (λ e. ahead.apart (sym e)) (sym (ap (same_number (line_segment tables b z)) from) ∙ h);
    })
  where
    two : (n : ℕ) → n + 2 ≡ n + 1 + 1
    two n = omega arith

    steps_of_table : (x : TrainTable) → slice_get tables.trains t ≡ Some x → (line_of tables).steps t ≡ length x.rows
    steps_of_table x e = ap (λ o. option_map_or (λ (y : TrainTable). length y.rows) o 0) e

-- what is found is an item that passes, and one is found where one passes
found_at : {A : Type 0} (p : A → Bool) (xs : List A) (x : A) → find p xs ≡ Some x → (i : ℕ) × (slice_get xs i ≡ Some x) × (p x ≡ true)
found_at p [] x h = absurd (cc)
found_at {A} p (y ∷ ys) x h = of (p y) refl h (λ e. found_at p ys x e)
  where
    of : (c : Bool) → p y ≡ c → cond c (Some y) (find p ys) ≡ Some x → (find p ys ≡ Some x → (i : ℕ) × (slice_get ys i ≡ Some x) × (p x ≡ true))
        → (i : ℕ) × (slice_get (y ∷ ys) i ≡ Some x) × (p x ≡ true)
    of true e h later = (zero, h, subst (λ (z : A). p z ≡ true) (same_Some y x h) e)
    of false e h later = let at = later h in (suc at.0, at.1, at.2)

some_found : {A : Type 0} (p : A → Bool) (xs : List A) (i : ℕ) (x : A) → slice_get xs i ≡ Some x → p x ≡ true → (y : A) × (find p xs ≡ Some y)
some_found p [] i x h pass = absurd (cc)
some_found {A} p (y ∷ ys) i x h pass = of (p y) refl i h (λ j k. some_found p ys j x k pass)
  where
    of : (c : Bool) → p y ≡ c → (i : ℕ) → slice_get (y ∷ ys) i ≡ Some x → ((j : ℕ) → slice_get ys j ≡ Some x → (z : A) × (find p ys ≡ Some z))
        → (z : A) × (cond c (Some y) (find p ys) ≡ Some z)
    of true e i h later = (y, refl)
    of false e zero h later = absurd (false≢true (sym e ∙ ap p (same_Some y x h) ∙ pass))
    of false e (suc j) h later = later j h

-- the holder of a segment at the start is the train whose route begins there
holder_is : (tables : Tables) (t s : ℕ) → IsLine tables → is_held_by t (starter_of tables s) ≡ is_number (route_of tables t 0) s
holder_is tables t s line = same_test _ _ there back
  where
    begins_at : TrainTable → Bool
    begins_at x = x.first.0 == s

    by_number : (o : Option TrainTable) → find (λ (x : TrainTable). x.first.0 == s) tables.trains ≡ o
        → is_held_by t (option_map (λ (x : TrainTable). x.number) o) ≡ true → is_number (route_of tables t 0) s ≡ true
    by_number None e h = absurd (false≢true h)
    by_number (Some x) e h =
        let at = found_at (λ (x : TrainTable). x.first.0 == s) tables.trains x e in
        let same : at.0 ≡ t = sym (line.trains at.0 x at.1).number ∙ eqb-true x.number.0 t h in
        ap (λ o. is_number o s) (route_is tables t 0 x (subst (λ n. slice_get tables.trains n ≡ Some x) same at.1)) ∙ at.2

    there : is_held_by t (starter_of tables s) ≡ true → is_number (route_of tables t 0) s ≡ true
    there h = by_number (find (λ (x : TrainTable). x.first.0 == s) tables.trains) refl h

    by_train : (o : Option TrainTable) → slice_get tables.trains t ≡ o → is_number (option_and_then (λ (x : TrainTable). segment_of_route x 0) o) s ≡ true
        → is_held_by t (starter_of tables s) ≡ true
    by_train None e h = absurd (false≢true h)
    by_train (Some x) e h =
        let some = some_found (λ (x : TrainTable). x.first.0 == s) tables.trains t x e h in
        let at = found_at (λ (x : TrainTable). x.first.0 == s) tables.trains some.0 some.1 in
        let same : at.0 ≡ t = line.starts at.0 t some.0 x at.1 e (eqb-true some.0.first.0 s at.2 ∙ sym (eqb-true x.first.0 s h)) in
        ap (λ o. is_held_by t (option_map (λ (x : TrainTable). x.number) o)) some.1 ∙ eq-eqb some.0.number.0 t ((line.trains at.0 some.0 at.1).number ∙ same)

    back : is_number (route_of tables t 0) s ≡ true → is_held_by t (starter_of tables s) ≡ true
    back h = by_train (slice_get tables.trains t) refl h

pub consistent_line : (tables : Tables) → IsLine tables → IsConsistent (line_of tables)
consistent_line tables line =
    record {
      rows = λ t k h. row_is tables t k line h;
      arms = λ t k b x h. has_arm (line_segment tables b x) (route_of tables t k) h;
      first_arm = λ b x h. first_of (slice_get tables.boxes b) b x refl h;
      first = λ t b x. first_is (line_segment tables b x) t;
    }
  where
    has_arm : (o p : Option ℕ) → same_number o p ≡ true → is_some o ≡ true
    has_arm None p h = absurd (false≢true h)
    has_arm (Some n) p h = refl

    mapped_there : (o : Option SegId) → is_some (option_map (λ (z : SegId). z.0) o) ≡ is_some o
    mapped_there None = refl
    mapped_there (Some z) = refl

    first_of : (o : Option BoxTable) (b x : ℕ) → slice_get tables.boxes b ≡ o → is_some (option_and_then (λ (y : BoxTable). segment_number y x) o) ≡ true
        → is_some (option_and_then (λ (y : BoxTable). segment_number y 0) (slice_get tables.boxes b)) ≡ true
    first_of None b x e h = absurd (false≢true h)
    first_of (Some y) b x e h =
        let among = ltb-true x (arms_of y.kind) (sym ((line.boxes b y e).arms x) ∙ sym (mapped_there (segment_in y x)) ∙ h) in
        ap (λ o. is_some (option_and_then (λ (y : BoxTable). segment_number y 0) o)) e ∙ mapped_there (segment_in y 0) ∙ (line.boxes b y e).arms 0
        ∙ lt-ltb 0 (arms_of y.kind) (omega arith)

    first_is : (o : Option ℕ) (t : ℕ) → is_held_by t (option_and_then (starter_of tables) o) ≡ same_number o (route_of tables t 0)
    first_is None t = refl
    first_is (Some s) t = holder_is tables t s line

-- trains that aren't there have no steps
pub few_trains : (tables : Tables) → HasTrains (line_of tables) (length tables.trains)
few_trains tables t h = ap (λ o. option_map_or (λ (x : TrainTable). length x.rows) o 0) (slice_get_past tables.trains t h)

module _ (net : NetworkPlan) (tables : Tables) (network : IsNetwork net) (are : AreTablesOf net tables) where
  -- an item that is there, or past the end of both lists
  box_cases : (b : ℕ) {P : Type 0} → ((x : BoxTable) → slice_get tables.boxes b ≡ Some x → P)
      → (slice_get tables.boxes b ≡ None → slice_get net.boxes b ≡ None → P) → P
  box_cases b {P} there past = of (slice_get tables.boxes b) refl
    where
      of : (o : Option BoxTable) → slice_get tables.boxes b ≡ o → P
      of (Some x) e = there x e
      of None e = past e (slice_get_past net.boxes b
          (⊎_elim (λ h. absurd (none_within tables.boxes b e (subst (λ n. b < n) (sym are.boxes.length_is) h))) (λ h. h) (cases_lt b (length net.boxes))))

  train_cases : (t : ℕ) {P : Type 0} → ((x : TrainTable) (r : Train) → slice_get tables.trains t ≡ Some x → slice_get net.trains t ≡ Some r → P)
      → (slice_get tables.trains t ≡ None → slice_get net.trains t ≡ None → P) → P
  train_cases t {P} there past = of (slice_get tables.trains t) (slice_get net.trains t) refl refl
    where
      of : (o : Option TrainTable) (p : Option Train) → slice_get tables.trains t ≡ o → slice_get net.trains t ≡ p → P
      of (Some x) (Some r) e f = there x r e f
      of None None e f = past e f
      of (Some x) None e f = absurd (none_within net.trains t f (subst (λ n. t < n) are.trains.length_is (slice_get_within tables.trains t x e)))
      of None (Some r) e f = absurd (none_within tables.trains t e (subst (λ n. t < n) (sym are.trains.length_is) (slice_get_within net.trains t r f)))

  kinds : (b : ℕ) → (line_of tables).kind b ≡ kind_of net b
  kinds b =
      box_cases b (λ x e. ap (λ o. option_map_or (λ (z : BoxTable). z.kind) o Buffer) e ∙ (are.boxes.each b x e).kind)
      (λ e f. ap (λ o. option_map_or (λ (z : BoxTable). z.kind) o Buffer) e ∙ ap (λ o. option_map_or (λ (z : SwitchBox). z.kind) o Buffer) (sym f))

  sides : (b : ℕ) → (line_of tables).side b ≡ start_side net b
  sides b =
      box_cases b (λ x e. ap (λ o. option_map_or (λ (z : BoxTable). z.side) o Left) e ∙ (are.boxes.each b x e).side)
      (λ e f. ap (λ o. option_map_or (λ (z : BoxTable). z.side) o Left) e ∙ ap (λ o. option_map_or (λ (z : SwitchBox). z.side) o Left) (sym f))

  segments : (b x : ℕ) → line_segment tables b x ≡ segment_at net b x
  segments b x =
      box_cases b (λ y e. ap (option_and_then (λ (z : BoxTable). segment_number z x)) e ∙ (are.boxes.each b y e).segments x)
      (λ e f. ap (option_and_then (λ (z : BoxTable). segment_number z x)) e
      ∙ ap (option_and_then (λ (z : SwitchBox). option_map (λ (s : SegId). s.0) (slice_get z.arms x))) (sym f))

  steps_are : (t : ℕ) → (line_of tables).steps t ≡ steps_of net t
  steps_are t =
      train_cases t (λ x r e f. ap (λ o. option_map_or (λ (z : TrainTable). length z.rows) o 0) e ∙ (are.trains.each t x e).rows.length_is)
      (λ e f. ap (λ o. option_map_or (λ (z : TrainTable). length z.rows) o 0) e ∙ ap (λ o. option_map_or (λ (z : Train). length z.boxes) o 0) (sym f))

  steps_at : (t : ℕ) (x : TrainTable) (k : ℕ) (row : StepRow) → slice_get tables.trains t ≡ Some x → slice_get x.rows k ≡ Some row → IsStepRow net t k row
  steps_at t x k row e f = (are.trains.each t x e).rows.each k row f

  routes : (t k : ℕ) → route_of tables t k ≡ route_segment net t k
  routes t k =
      train_cases t (λ x r e f. route_is tables t k x e ∙ by_place x r e f k)
      (λ e f. ap (option_and_then (λ (x : TrainTable). segment_of_route x k)) e
      ∙ ap (option_and_then (λ (r : Train). option_map (λ (s : SegId). s.0) (slice_get r.segments k))) (sym f))
    where
      by_place : (x : TrainTable) (r : Train) → slice_get tables.trains t ≡ Some x → slice_get net.trains t ≡ Some r → (k : ℕ)
          → segment_of_route x k ≡ route_segment net t k
      by_place x r e f zero = sym (are.trains.each t x e).first
      by_place x r e f (suc j) = of (slice_get x.rows j) refl
        where
          next_of : (n : ℕ) → n + 1 ≡ suc n
          next_of n = omega arith

          of : (o : Option StepRow) → slice_get x.rows j ≡ o → option_map (λ (row : StepRow). row.s2.0) o ≡ route_segment net t (suc j)
          of (Some row) g = sym (steps_at t x j row e g).step.to ∙ ap (route_segment net t) (next_of j)
          of None g =
              let steps : length x.rows ≡ length r.boxes =
              (are.trains.each t x e).rows.length_is ∙ ap (λ o. option_map_or (λ (z : Train). length z.boxes) o 0) f in
              let shape = (network.trains t r f).shape in
              let past : length r.segments ≤ suc j = ⊎_elim (λ h. absurd (none_within x.rows j g h)) (λ h. omega arith) (cases_lt j (length x.rows)) in
              sym (ap (option_and_then (λ (z : Train). option_map (λ (s : SegId). s.0) (slice_get z.segments (suc j)))) f
              ∙ ap (option_map (λ (s : SegId). s.0)) (slice_get_past r.segments (suc j) past))

  rows_are : (t k : ℕ) → k < (line_of tables).steps t → let row = (line_of tables).row t k in IsStep net t k row.s.0 row.b.0 row.s2.0
  rows_are t k h =
      let there = row_there tables t k h in
      subst (λ (row : StepRow). IsStep net t k row.s.0 row.b.0 row.s2.0) (sym there.4) (steps_at t there.0 k there.1 there.2 there.3).step

  pub line_of_network : IsLineOf net (line_of tables)
  line_of_network =
      record {
        kind = kinds;
        side = sides;
        segment = λ b x. sym (segments b x) ∙ shown (line_segment tables b x);
        steps = steps_are;
        rows = rows_are;
        ends = λ t k b x. ap (λ o. same_number o (route_of tables t k)) (segments b x) ∙ ap (same_number (segment_at net b x)) (routes t k);
      }
    where
      shown : (o : Option ℕ) → o ≡ cond (is_some o) (Some (unwrap_or o 0)) None
      shown None = refl
      shown (Some n) = refl

pub railway_of_tables : (net : NetworkPlan) (tables : Tables) → IsNetwork net → IsLine tables → AreTablesOf net tables → IsRailway net (line_of tables)
railway_of_tables net tables network line are =
    record { network = network; line_is = line_of_network net tables network are; consistent = consistent_line tables line }
