-- A network has no other tables: what is said of each part leaves no choice.
use Rattle.std.proofs.Common.{◌≡◌, ℕ, suc, ◌≢◌, List, [], ◌∷◌, length, slice_get, Option, Some, None, refl, sym, ap, ◌∙◌, subst, arith}
use Rattle.std.specs.Prelude.{option_map}
use Rattle.std.proofs.lemmas.Bool.Decides.{nat_tests}
use Rattle.std.proofs.lemmas.Option.{same_Some, option_and_then_some}
use Rattle.rl_base.specs.declared.ids.SegId.{SegId}
use Rattle.rl_base.specs.declared.kind.Kind.{Kind}
use Rattle.rl_base.specs.declared.kind.Side.{Side}
use Rattle.rl_model.specs.declared.network.Segment.{Segment}
use Rattle.rl_model.specs.declared.network.NetworkPlan.{NetworkPlan}
use Rattle.rl_model.specs.Network.{arm_at, arm_of, steps_of}
use Rattle.rl_tables.specs.declared.table.BoxTable.{BoxTable}
use Rattle.rl_tables.specs.declared.table.NextRow.{NextRow}
use Rattle.rl_tables.specs.declared.table.StepRow.{StepRow}
use Rattle.rl_tables.specs.declared.table.TrainTable.{TrainTable}
use Rattle.rl_tables.specs.declared.table.Tables.{Tables}
use Rattle.rl_tables.specs.Tables.{IsListOf, IsBoxTable, IsOtherEnd, IsNextRow, LooksAheadTo, IsStepRow, IsTrainTable, AreTablesOf}

-- two lists that are as long, with items that belong at their places, where one thing at most belongs at each
same_items : {A : Type 0} (P : ℕ → A → Type 0) (xs ys : List A) → length xs ≡ length ys → ((k : ℕ) (x : A) → slice_get xs k ≡ Some x → P k x)
    → ((k : ℕ) (x : A) → slice_get ys k ≡ Some x → P k x) → ((k : ℕ) (x y : A) → P k x → P k y → x ≡ y) → xs ≡ ys
same_items P [] [] len each_x each_y one = refl
same_items P [] (y ∷ ys) len each_x each_y one = absurd (omega arith)
same_items P (x ∷ xs) [] len each_x each_y one = absurd (omega arith)
same_items P (x ∷ xs) (y ∷ ys) len each_x each_y one =
    let head : x ≡ y = one 0 x y (each_x 0 x refl) (each_y 0 y refl) in
    let tail : xs ≡ ys = same_items (λ k. P (suc k)) xs ys (omega arith) (λ k. each_x (suc k)) (λ k. each_y (suc k)) (λ k. one (suc k)) in
    cc

same_list : {A : Type 0} (n : ℕ) (P : ℕ → A → Type 0) (xs ys : List A) → IsListOf n P xs → IsListOf n P ys → ((k : ℕ) (x y : A) → P k x → P k y → x ≡ y)
    → xs ≡ ys
same_list n P xs ys is_x is_y one = same_items P xs ys (is_x.length_is ∙ sym is_y.length_is) is_x.each is_y.each one

-- a record is its fields, numbers without their types
abbrev seg : ℕ → SegId
seg n = record { 0 = n }

abbrev next_of : (s3 b2 b2_arm c2 c2_arm : ℕ) → NextRow
next_of s3 b2 b2_arm c2 c2_arm =
    record { s3 = record { 0 = s3 }; b2 = record { 0 = b2 }; b2_arm = record { 0 = b2_arm }; c2 = record { 0 = c2 }; c2_arm = record { 0 = c2_arm } }

abbrev row_of : (s s2 b x y c c_arm a a_arm : ℕ) → Option NextRow → StepRow
row_of s s2 b x y c c_arm a a_arm next =
    record {
      s = record { 0 = s };
      s2 = record { 0 = s2 };
      b = record { 0 = b };
      x = record { 0 = x };
      y = record { 0 = y };
      c = record { 0 = c };
      c_arm = record { 0 = c_arm };
      a = record { 0 = a };
      a_arm = record { 0 = a_arm };
      next = next;
    }

abbrev box_of : ℕ → Kind → Side → (seg0 seg1 seg2 seg3 : Option SegId) → BoxTable
box_of number kind side seg0 seg1 seg2 seg3 =
    record { number = record { 0 = number }; kind = kind; side = side; seg0 = seg0; seg1 = seg1; seg2 = seg2; seg3 = seg3 }

abbrev train_of : (number first : ℕ) → List StepRow → TrainTable
train_of number first rows = record { number = record { 0 = number }; first = record { 0 = first }; rows = rows }

abbrev tables_of : List BoxTable → List TrainTable → Tables
tables_of boxes trains = record { boxes = boxes; trains = trains }

same_segment : (o p : Option SegId) → option_map (λ (s : SegId). s.0) o ≡ option_map (λ (s : SegId). s.0) p → o ≡ p
same_segment None None h = refl
same_segment None (Some s) h = absurd (cc)
same_segment (Some s) None h = absurd (cc)
same_segment (Some s) (Some s2) h = let e : s.0 ≡ s2.0 = cc in ap (λ n. Some (seg n)) e

same_box : (net : NetworkPlan) (b : ℕ) (x y : BoxTable) → IsBoxTable net b x → IsBoxTable net b y → x ≡ y
same_box net b x y is_x is_y =
    let number : x.number.0 ≡ y.number.0 = is_x.number ∙ sym is_y.number in
    let kind : x.kind ≡ y.kind = is_x.kind ∙ sym is_y.kind in
    let side : x.side ≡ y.side = is_x.side ∙ sym is_y.side in
    let seg0 : x.seg0 ≡ y.seg0 = same_segment x.seg0 y.seg0 (is_x.segments 0 ∙ sym (is_y.segments 0)) in
    let seg1 : x.seg1 ≡ y.seg1 = same_segment x.seg1 y.seg1 (is_x.segments 1 ∙ sym (is_y.segments 1)) in
    let seg2 : x.seg2 ≡ y.seg2 = same_segment x.seg2 y.seg2 (is_x.segments 2 ∙ sym (is_y.segments 2)) in
    let seg3 : x.seg3 ≡ y.seg3 = same_segment x.seg3 y.seg3 (is_x.segments 3 ∙ sym (is_y.segments 3)) in
    let whole : box_of x.number.0 x.kind x.side x.seg0 x.seg1 x.seg2 x.seg3 ≡ box_of y.number.0 y.kind y.side y.seg0 y.seg1 y.seg2 y.seg3 = cc in
    whole

-- a segment has no third end
third_end : (g : Segment) (b c d x y z : ℕ) → arm_at b g ≡ Some x → arm_at c g ≡ Some y → arm_at d g ≡ Some z → c ≢ b → d ≢ b → c ≡ d
third_end g b c d x y z at_b at_c at_d c_apart d_apart = grind (arith, nat_tests)

other_end : (net : NetworkPlan) (s b x c y d z : ℕ) → arm_of net s b ≡ Some x → IsOtherEnd net s b c y → IsOtherEnd net s b d z → (c ≡ d) × (y ≡ z)
other_end net s b x c y d z at_b is_c is_d =
    let same : c ≡ d = option_and_then_some (arm_at b) (slice_get net.segments s) x at_b
    (λ g found at. third_end g b c d x y z at (rw found at is_c.there) (rw found at is_d.there) is_c.apart is_d.apart) in
    (same, same_Some y z (sym is_c.there ∙ ap (arm_of net s) same ∙ is_d.there))

pub same_next_row : (net : NetworkPlan) (t k s s2 : ℕ) (n m : NextRow) → IsNextRow net t k s s2 n → IsNextRow net t k s s2 m → n ≡ m
same_next_row net t k s s2 n m is is2 =
    let s3 : n.s3.0 ≡ m.s3.0 = same_Some n.s3.0 m.s3.0 (sym is.step.to ∙ is2.step.to) in
    let b2 : n.b2.0 ≡ m.b2.0 = same_Some n.b2.0 m.b2.0 (sym is.step.through ∙ is2.step.through) in
    let b2_arm : n.b2_arm.0 ≡ m.b2_arm.0 =
    same_Some n.b2_arm.0 m.b2_arm.0 (sym is.near ∙ ap (λ g. arm_of net g n.b2.0) s3 ∙ ap (arm_of net m.s3.0) b2 ∙ is2.near) in
    let far2 : IsOtherEnd net n.s3.0 n.b2.0 m.c2.0 m.c2_arm.0 =
    subst (λ g. IsOtherEnd net g n.b2.0 m.c2.0 m.c2_arm.0) (sym s3) (subst (λ b. IsOtherEnd net m.s3.0 b m.c2.0 m.c2_arm.0) (sym b2) is2.far) in
    let far = other_end net n.s3.0 n.b2.0 n.b2_arm.0 n.c2.0 n.c2_arm.0 m.c2.0 m.c2_arm.0 is.near is.far far2 in
    let c2 : n.c2.0 ≡ m.c2.0 = far.0 in
    let c2_arm : n.c2_arm.0 ≡ m.c2_arm.0 = far.1 in
    let whole : next_of n.s3.0 n.b2.0 n.b2_arm.0 n.c2.0 n.c2_arm.0 ≡ next_of m.s3.0 m.b2.0 m.b2_arm.0 m.c2.0 m.c2_arm.0 = cc in
    whole

same_next : (net : NetworkPlan) (t k s s2 : ℕ) (o p : Option NextRow) → LooksAheadTo net t k s s2 o → LooksAheadTo net t k s s2 p → o ≡ p
same_next net t k s s2 None None is is2 = refl
same_next net t k s s2 None (Some m) is is2 = absurd (is2.apart (is m.b2.0 m.s3.0 is2.step))
same_next net t k s s2 (Some n) None is is2 = absurd (is.apart (is2 n.b2.0 n.s3.0 is.step))
same_next net t k s s2 (Some n) (Some m) is is2 = ap Some (same_next_row net t k s s2 n m is is2)

same_row : (net : NetworkPlan) (t k : ℕ) (row row2 : StepRow) → IsStepRow net t k row → IsStepRow net t k row2 → row ≡ row2
same_row net t k row row2 is is2 =
    let s : row.s.0 ≡ row2.s.0 = same_Some row.s.0 row2.s.0 (sym is.step.from ∙ is2.step.from) in
    let s2 : row.s2.0 ≡ row2.s2.0 = same_Some row.s2.0 row2.s2.0 (sym is.step.to ∙ is2.step.to) in
    let b : row.b.0 ≡ row2.b.0 = same_Some row.b.0 row2.b.0 (sym is.step.through ∙ is2.step.through) in
    let x : row.x.0 ≡ row2.x.0 = same_Some row.x.0 row2.x.0 (sym is.x ∙ ap (λ n. arm_of net n row.b.0) s ∙ ap (arm_of net row2.s.0) b ∙ is2.x) in
    let y : row.y.0 ≡ row2.y.0 = same_Some row.y.0 row2.y.0 (sym is.y ∙ ap (λ n. arm_of net n row.b.0) s2 ∙ ap (arm_of net row2.s2.0) b ∙ is2.y) in
    let far2 : IsOtherEnd net row.s2.0 row.b.0 row2.c.0 row2.c_arm.0 =
    subst (λ n. IsOtherEnd net n row.b.0 row2.c.0 row2.c_arm.0) (sym s2) (subst (λ n. IsOtherEnd net row2.s2.0 n row2.c.0 row2.c_arm.0) (sym b) is2.far) in
    let back2 : IsOtherEnd net row.s.0 row.b.0 row2.a.0 row2.a_arm.0 =
    subst (λ n. IsOtherEnd net n row.b.0 row2.a.0 row2.a_arm.0) (sym s) (subst (λ n. IsOtherEnd net row2.s.0 n row2.a.0 row2.a_arm.0) (sym b) is2.back) in
    let far = other_end net row.s2.0 row.b.0 row.y.0 row.c.0 row.c_arm.0 row2.c.0 row2.c_arm.0 is.y is.far far2 in
    let back = other_end net row.s.0 row.b.0 row.x.0 row.a.0 row.a_arm.0 row2.a.0 row2.a_arm.0 is.x is.back back2 in
    let c : row.c.0 ≡ row2.c.0 = far.0 in
    let c_arm : row.c_arm.0 ≡ row2.c_arm.0 = far.1 in
    let a : row.a.0 ≡ row2.a.0 = back.0 in
    let a_arm : row.a_arm.0 ≡ row2.a_arm.0 = back.1 in
    let next2 : LooksAheadTo net t k row.s.0 row.s2.0 row2.next =
    subst (λ g. LooksAheadTo net t k g row.s2.0 row2.next) (sym s) (subst (λ g. LooksAheadTo net t k row2.s.0 g row2.next) (sym s2) is2.next) in
    let next : row.next ≡ row2.next = same_next net t k row.s.0 row.s2.0 row.next row2.next is.next next2 in
    let whole : row_of row.s.0 row.s2.0 row.b.0 row.x.0 row.y.0 row.c.0 row.c_arm.0 row.a.0 row.a_arm.0 row.next
    ≡ row_of row2.s.0 row2.s2.0 row2.b.0 row2.x.0 row2.y.0 row2.c.0 row2.c_arm.0 row2.a.0 row2.a_arm.0 row2.next = cc in
    whole

same_train : (net : NetworkPlan) (t : ℕ) (x y : TrainTable) → IsTrainTable net t x → IsTrainTable net t y → x ≡ y
same_train net t x y is_x is_y =
    let number : x.number.0 ≡ y.number.0 = is_x.number ∙ sym is_y.number in
    let first : x.first.0 ≡ y.first.0 = same_Some x.first.0 y.first.0 (sym is_x.first ∙ is_y.first) in
    let rows : x.rows ≡ y.rows = same_list (steps_of net t) (IsStepRow net t) x.rows y.rows is_x.rows is_y.rows (same_row net t) in
    let whole : train_of x.number.0 x.first.0 x.rows ≡ train_of y.number.0 y.first.0 y.rows = cc in
    whole

pub only_tables : (net : NetworkPlan) (a b : Tables) → AreTablesOf net a → AreTablesOf net b → a ≡ b
only_tables net a b are_a are_b =
    let boxes : a.boxes ≡ b.boxes = same_list (length net.boxes) (IsBoxTable net) a.boxes b.boxes are_a.boxes are_b.boxes (same_box net) in
    let trains : a.trains ≡ b.trains = same_list (length net.trains) (IsTrainTable net) a.trains b.trains are_a.trains are_b.trains (same_train net) in
    let whole : tables_of a.boxes a.trains ≡ tables_of b.boxes b.trains = cc in
    whole
