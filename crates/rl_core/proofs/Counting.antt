-- What moves count for each train, with one move more.
use Rattle.std.proofs.Common.{◌≡◌, ℕ, zero, suc, ◌+◌, ◌^◌, ◌<◌, ◌≤◌, Bool, false, cond, List, [], ◌∷◌, ◌++◌, map, length, replicate, slice_get, slice_set, slice_index_or, Some, refl, sym, ap, ◌∙◌, inl, inr, arith}
use Rattle.std.specs.Prelude.{count_by}
use Rattle.std.specs.List.{range_with_len}
use Rattle.std.proofs.lemmas.Bool.{cases_eq, cases_lt, eq-eqb, ne_eqb}
use Rattle.std.proofs.lemmas.List.{length-set, get_or-set_same, get_or-set_other}
use Rattle.std.proofs.lemmas.Option.{slice_get-get_or}
use Rattle.std.proofs.lemmas.List.FromFn.{length-map-range_with_len, get_or-map-range_with_len, fill_by_all}
use Rattle.std.proofs.lemmas.List.Sums.{count_by-le-length, sum_by-append}
use Rattle.rl_base.specs.declared.ids.BoxId.{BoxId}
use Rattle.rl_base.specs.declared.ids.SegId.{SegId}
use Rattle.rl_base.specs.declared.ids.TrainId.{TrainId}
use Rattle.rl_model.specs.declared.moves.Move.{Move}
use Rattle.rl_model.specs.declared.moves.Move.TheVariants.{Leave, Refuse, Bar}
use Rattle.rl_model.specs.Reports.{is_leave, is_refusal, made_in, refused_in}
use Rattle.rl_core.specs.declared.reports.Count.{Count}
use Rattle.rl_core.specs.Reports.{count_of, counts_of}

-- before the first move nothing is counted
pub none_counted : (a n : ℕ) → (let none : Count = record { made = 0; refused = 0 } in replicate n none) ≡ map (count_of []) (range_with_len a n)
none_counted a zero = refl
none_counted a (suc n) = let none : Count = record { made = 0; refused = 0 } in ap (λ counts. none ∷ counts) (none_counted (a + 1) n)

-- a list by its items, one of which is written
set_listed : {A : Type 0} (f g : ℕ → A) (n t : ℕ) → t < n → ((k : ℕ) → (k ≡ t → ⊥) → f k ≡ g k)
    → slice_set (map f (range_with_len 0 n)) t (g t) ≡ map g (range_with_len 0 n)
set_listed f g n t there others =
    let xs = map f (range_with_len 0 n) in
    let long : length (map f (range_with_len 0 n)) ≡ n = length-map-range_with_len f 0 n in
    fill_by_all g (slice_set (map f (range_with_len 0 n)) t (g t)) n (g t) (length-set (map f (range_with_len 0 n)) t (g t) ∙ long)
    (λ k within. elim (cases_eq k t) [
      | inl same ↦ rw same (get_or-set_same (map f (range_with_len 0 n)) t (g t) (g t) (omega arith))
      | inr other ↦ get_or-set_other (map f (range_with_len 0 n)) t k (g t) (g t) other
          ∙ get_or-map-range_with_len f 0 n k k (g t) within (omega arith) ∙ others k other
    ])

-- one move more
pub record IsCountOf (t : ℕ) (m : Move) (more : Count) : Type 0 where
  pub made : more.made ≡ cond (is_leave t m) 1 0
  pub refused : more.refused ≡ cond (is_refusal t m) 1 0
  pub others : (k : ℕ) → (k ≡ t → ⊥) → (is_leave k m ≡ false) × (is_refusal k m ≡ false)

count_more : (p : Move → Bool) (ms : List Move) (m : Move) → count_by p (ms ++ m ∷ []) ≡ count_by p ms + cond (p m) 1 0
count_more p ms m = sum_by-append (λ x. cond (p x) 1 0) ms (m ∷ []) ∙ ap (λ n. count_by p ms + n) (omega arith)

count_none : (p : Move → Bool) (ms : List Move) (m : Move) → p m ≡ false → count_by p ms ≡ count_by p (ms ++ m ∷ [])
count_none p ms m fails =
    let none : count_by p (ms ++ m ∷ []) ≡ count_by p ms + 0 = count_more p ms m ∙ ap (λ b. count_by p ms + cond b 1 0) fails in omega arith

counted_other : (ms : List Move) (t : ℕ) (m : Move) (more : Count) (k : ℕ) → IsCountOf t m more → (k ≡ t → ⊥) → count_of ms k ≡ count_of (ms ++ m ∷ []) k
counted_other ms t m more k is apart =
    let none = is.others k apart in
    let made = count_none (is_leave k) ms m none.0 in
    let refused = count_none (is_refusal k) ms m none.1 in
    cc

counted_one : (ms : List Move) (t : ℕ) (m : Move) (more x sum : Count) → IsCountOf t m more → x ≡ count_of ms t → sum.made ≡ x.made + more.made
    → sum.refused ≡ x.refused + more.refused → sum ≡ count_of (ms ++ m ∷ []) t
counted_one ms t m more x sum is counts made refused =
    let x_made : x.made ≡ made_in ms t = ap (λ (c : Count). c.made) counts in
    let x_refused : x.refused ≡ refused_in ms t = ap (λ (c : Count). c.refused) counts in
    let made_more = count_more (is_leave t) ms m in
    let refused_more = count_more (is_refusal t) ms m in
    let more_made = is.made in
    let more_refused = is.refused in
    let made_is : sum.made ≡ made_in (ms ++ m ∷ []) t = omega arith in
    let refused_is : sum.refused ≡ refused_in (ms ++ m ∷ []) t = omega arith in
    let make = λ (a b : ℕ). let made : Count = record { made = a; refused = b } in made in
    ap (λ a. make a sum.refused) made_is ∙ ap (λ b. make (made_in (ms ++ m ∷ []) t) b) refused_is

listed_there : {A : Type 0} (f : ℕ → A) (n t : ℕ) → t < n → slice_get (map f (range_with_len 0 n)) t ≡ Some (f t)
listed_there f n t there =
    slice_get-get_or (map f (range_with_len 0 n)) t (f t) (omega (arith, length-map-range_with_len f 0 n))
    ∙ ap Some (get_or-map-range_with_len f 0 n t t (f t) there (omega arith))

-- what the code adds for a move
abbrev pub AddsTo : (old new : List Count) → ℕ → Count → Type 0
AddsTo old new t more =
    ((x : Count) → slice_get old t ≡ Some x → x.made + more.made < 2 ^ 32 → x.refused + more.refused < 2 ^ 32
    → new ≡ slice_set old t (record { made = x.made + more.made; refused = x.refused + more.refused }))
    × (length old ≤ t → new ≡ old)

move_counted : (ms : List Move) (n t : ℕ) (m : Move) (more : Count) (old new : List Count) → length ms + 1 < 2 ^ 32 → IsCountOf t m more → more.made ≤ 1
    → more.refused ≤ 1 → AddsTo old new t more → old ≡ counts_of ms n → new ≡ counts_of (ms ++ m ∷ []) n
move_counted ms n t m more old new few is one once added before =
    elim (cases_lt t n) [
      | inl there ↦
          let low = count_by-le-length (is_leave t) ms in
          let low_refused = count_by-le-length (is_refusal t) ms in
          let x : Count = count_of ms t in
          let at : slice_get old t ≡ Some (count_of ms t) = ap (λ cs. slice_get cs t) before ∙ listed_there (count_of ms) n t there in
          let sum : Count = record { made = made_in ms t + more.made; refused = refused_in ms t + more.refused } in
          let sum_is : (let s : Count = record { made = made_in ms t + more.made; refused = refused_in ms t + more.refused } in s) ≡ count_of (ms ++ m ∷ []) t =
          counted_one ms t m more (count_of ms t) (record { made = made_in ms t + more.made; refused = refused_in ms t + more.refused }) is refl refl refl in
          let written = added.0 (count_of ms t) at (omega arith) (omega arith) in
          written ∙ ap (λ cs. slice_set cs t (record { made = made_in ms t + more.made; refused = refused_in ms t + more.refused })) before
          ∙ ap (λ v. slice_set (counts_of ms n) t v) sum_is
          ∙ set_listed (count_of ms) (count_of (ms ++ m ∷ [])) n t there (λ k apart. counted_other ms t m more k is apart)
      | inr past ↦
          let long : length (map (count_of ms) (range_with_len 0 n)) ≡ n = length-map-range_with_len (count_of ms) 0 n in
          let short : length old ≤ t = omega (arith, ap (λ cs. length cs) before) in
          added.1 short ∙ before
          ∙ fill_by_all (count_of (ms ++ m ∷ [])) (counts_of ms n) n (count_of ms 0) long
          (λ k within. get_or-map-range_with_len (count_of ms) 0 n k k (count_of ms 0) within (omega arith) ∙ counted_other ms t m more k is (λ e. omega arith))
    ]

pub leave_counted : (ms : List Move) (n : ℕ) (t : TrainId) (s : SegId) (old new : List Count) → length ms + 1 < 2 ^ 32
    → AddsTo old new t.0 (record { made = 1; refused = 0 }) → old ≡ counts_of ms n → new ≡ counts_of (ms ++ Leave t s ∷ []) n
leave_counted ms n t s old new few added before =
    move_counted ms n t.0 (Leave t s) (record { made = 1; refused = 0 }) old new few
    (record {
      made = ap (λ b. cond b 1 0) (sym (eq-eqb t.0 t.0 refl));
      refused = refl;
      others = λ k apart.
          (ne_eqb t.0 k (λ e. apart (sym e)), refl);
    }) (omega arith) (omega arith) added before

pub refuse_counted : (ms : List Move) (n : ℕ) (t : TrainId) (s : SegId) (b : BoxId) (u : TrainId) (old new : List Count) → length ms + 1 < 2 ^ 32
    → AddsTo old new t.0 (record { made = 0; refused = 1 }) → old ≡ counts_of ms n → new ≡ counts_of (ms ++ Refuse t s b u ∷ []) n
refuse_counted ms n t s b u old new few added before =
    move_counted ms n t.0 (Refuse t s b u) (record { made = 0; refused = 1 }) old new few
    (record {
      made = refl;
      refused = ap (λ b. cond b 1 0) (sym (eq-eqb t.0 t.0 refl));
      others = λ k apart.
          (refl, ne_eqb t.0 k (λ e. apart (sym e)));
    }) (omega arith) (omega arith) added before

pub bar_counted : (ms : List Move) (n : ℕ) (t : TrainId) (b : BoxId) (u : TrainId) (old new : List Count) → length ms + 1 < 2 ^ 32
    → AddsTo old new t.0 (record { made = 0; refused = 1 }) → old ≡ counts_of ms n → new ≡ counts_of (ms ++ Bar t b u ∷ []) n
bar_counted ms n t b u old new few added before =
    move_counted ms n t.0 (Bar t b u) (record { made = 0; refused = 1 }) old new few
    (record {
      made = refl;
      refused = ap (λ b. cond b 1 0) (sym (eq-eqb t.0 t.0 refl));
      others = λ k apart.
          (refl, ne_eqb t.0 k (λ e. apart (sym e)));
    }) (omega arith) (omega arith) added before

-- the count that is read at a train's place
pub count_at : (ms : List Move) (n t : ℕ) (counts : List Count) (count : Count) → t < n → counts ≡ counts_of ms n → count ≡ slice_index_or counts t count
    → count ≡ count_of ms t
count_at ms n t counts count there are is =
    is ∙ ap (λ cs. slice_index_or cs t count) are ∙ get_or-map-range_with_len (count_of ms) 0 n t t count there (omega arith)
