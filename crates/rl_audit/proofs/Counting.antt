-- One move more is counted.
use Rattle.std.proofs.Common.{◌≡◌, ◌==◌, ℕ, zero, suc, ◌+◌, ◌<◌, ◌^◌, Bool, true, false, cond, List, [], ◌∷◌, ◌++◌, length, slice_get, slice_set, Some, refl, sym, ap, ◌∙◌, subst, arith}
use Rattle.std.specs.Prelude.{count_by}
use Rattle.std.proofs.lemmas.Bool.Decides.{nat_tests}
use Rattle.std.proofs.lemmas.Option.{same_Some}
use Rattle.std.proofs.lemmas.List.Sums.{count_by-le-length, sum_by-append}
use Rattle.rl_base.specs.declared.ids.TrainId.{TrainId}
use Rattle.rl_base.specs.declared.ids.SegId.{SegId}
use Rattle.rl_base.specs.declared.ids.BoxId.{BoxId}
use Rattle.rl_model.specs.declared.moves.Move.{Move}
use Rattle.rl_model.specs.declared.moves.Move.TheVariants.{Leave, Refuse, Bar}
use Rattle.rl_model.specs.Reports.{is_leave, is_refusal, made_in, refused_in}
use Rattle.rl_audit.specs.declared.counts.Count.{Count}
use Rattle.rl_audit.specs.Counting.{AreCounts}

-- one more passes, or not
count_more : {A : Type 0} (p : A → Bool) (xs : List A) (y : A) → count_by p (xs ++ y ∷ []) ≡ count_by p xs + cond (p y) 1 0
count_more p xs y = sum_by-append (λ x. cond (p x) 1 0) xs (y ∷ []) ∙ ap (λ n. count_by p xs + n) (alone (p y))
  where
    alone : (b : Bool) → 0 + cond b 1 0 ≡ cond b 1 0
    alone b = omega arith

count_yes : {A : Type 0} (p : A → Bool) (xs : List A) (y : A) → p y ≡ true → count_by p (xs ++ y ∷ []) ≡ count_by p xs + 1
count_yes p xs y h = count_more p xs y ∙ ap (λ b. count_by p xs + cond b 1 0) h

count_no : {A : Type 0} (p : A → Bool) (xs : List A) (y : A) → p y ≡ false → count_by p (xs ++ y ∷ []) ≡ count_by p xs
count_no p xs y h = count_more p xs y ∙ ap (λ b. count_by p xs + cond b 1 0) h ∙ omega arith

-- what holds of each item at another place, and of one more, holds of each after a write
each_but : {A : Type 0} (P : ℕ → A → Type 0) (xs : List A) (i : ℕ) (y : A) → ((k : ℕ) (x : A) → (k ≡ i → ⊥) → slice_get xs k ≡ Some x → P k x) → P i y
    → (k : ℕ) (x : A) → slice_get (slice_set xs i y) k ≡ Some x → P k x
each_but P [] i y others here k x at = absurd (cc)
each_but P (z ∷ zs) zero y others here zero x at = let is = same_Some y x at in subst (P 0) is here
each_but P (z ∷ zs) zero y others here (suc k) x at = others (suc k) x (λ e. omega arith) at
each_but P (z ∷ zs) (suc i) y others here zero x at = others 0 x (λ e. omega arith) at
each_but P (z ∷ zs) (suc i) y others here (suc k) x at =
    each_but (λ j. P (suc j)) zs i y (λ j w apart is. others (suc j) w (λ e. apart (omega arith)) is) here k x at

apart_false : (t u : ℕ) → (u ≡ t → ⊥) → (t == u) ≡ false
apart_false t u h = grind (arith, nat_tests)

same_true : (t : ℕ) → (t == t) ≡ true
same_true t = grind (arith, nat_tests)

pub there : {A : Type 0} (xs : List A) (i : ℕ) → i < length xs → (x : A) × (slice_get xs i ≡ Some x)
there [] i h = absurd (omega arith)
there (x ∷ xs) zero h = (x, refl)
there (x ∷ xs) (suc i) h = there xs i (omega arith)

pub counted_leave : (moves : List Move) (counts new : List Count) (t : TrainId) (s : SegId) → t.0 < length counts → length moves + 1 < 2 ^ 32
    → AreCounts moves counts
    → ((x : Count) → slice_get counts t.0 ≡ Some x → x.made + 1 < 2 ^ 32 → new ≡ slice_set counts t.0 (record x { made = x.made + 1 }))
    → AreCounts (moves ++ Leave t s ∷ []) new
counted_leave moves counts new t s within few are added =
    let found = there counts t.0 within in
    let here = are t.0 found.0 found.1 in
    let made = here.0 in
    let low = count_by-le-length (is_leave t.0) moves in
    let written = added found.0 found.1 (omega arith) in
    rw written
    (each_but (λ u x. (x.made ≡ made_in (moves ++ Leave t s ∷ []) u) × (x.refused ≡ refused_in (moves ++ Leave t s ∷ []) u)) counts t.0
    (record found.0 { made = found.0.made + 1 })
    (λ u x apart at.
    let before = are u x at in
    (before.0 ∙ sym (count_no (is_leave u) moves (Leave t s) (apart_false t.0 u apart)), before.1 ∙ sym (count_no (is_refusal u) moves (Leave t s) refl))) (
      ap (λ n. n + 1) here.0 ∙ sym (count_yes (is_leave t.0) moves (Leave t s) (same_true t.0)),
      here.1
          ∙ sym (count_no (is_refusal t.0) moves (Leave t s) refl),
    ))

-- a move that is a refusal of train t, and no Leave
counted_refusal : (moves : List Move) (counts new : List Count) (t : TrainId) (m : Move) → ((u : ℕ) → is_refusal u m ≡ (t.0 == u))
    → ((u : ℕ) → is_leave u m ≡ false)
    → t.0 < length counts → length moves + 1 < 2 ^ 32 → AreCounts moves counts
    → ((x : Count) → slice_get counts t.0 ≡ Some x → x.refused + 1 < 2 ^ 32 → new ≡ slice_set counts t.0 (record x { refused = x.refused + 1 }))
    → AreCounts (moves ++ m ∷ []) new
counted_refusal moves counts new t m refuses leaves within few are added =
    let found = there counts t.0 within in
    let here = are t.0 found.0 found.1 in
    let refused = here.1 in
    let low = count_by-le-length (is_refusal t.0) moves in
    let written = added found.0 found.1 (omega arith) in
    rw written
    (each_but (λ u x. (x.made ≡ made_in (moves ++ m ∷ []) u) × (x.refused ≡ refused_in (moves ++ m ∷ []) u)) counts t.0
    (record found.0 { refused = found.0.refused + 1 })
    (λ u x apart at.
    let before = are u x at in
    (before.0 ∙ sym (count_no (is_leave u) moves m (leaves u)), before.1 ∙ sym (count_no (is_refusal u) moves m (refuses u ∙ apart_false t.0 u apart)))) (
      here.0 ∙ sym (count_no (is_leave t.0) moves m (leaves t.0)),
      ap (λ n. n + 1) here.1
          ∙ sym (count_yes (is_refusal t.0) moves m (refuses t.0 ∙ same_true t.0)),
    ))

pub counted_refuse : (moves : List Move) (counts new : List Count) (t : TrainId) (s : SegId) (b : BoxId) (v : TrainId) → t.0 < length counts
    → length moves + 1 < 2 ^ 32 → AreCounts moves counts
    → ((x : Count) → slice_get counts t.0 ≡ Some x → x.refused + 1 < 2 ^ 32 → new ≡ slice_set counts t.0 (record x { refused = x.refused + 1 }))
    → AreCounts (moves ++ Refuse t s b v ∷ []) new
counted_refuse moves counts new t s b v = counted_refusal moves counts new t (Refuse t s b v) (λ u. refl) (λ u. refl)

pub counted_bar : (moves : List Move) (counts new : List Count) (t : TrainId) (b : BoxId) (v : TrainId) → t.0 < length counts → length moves + 1 < 2 ^ 32
    → AreCounts moves counts
    → ((x : Count) → slice_get counts t.0 ≡ Some x → x.refused + 1 < 2 ^ 32 → new ≡ slice_set counts t.0 (record x { refused = x.refused + 1 }))
    → AreCounts (moves ++ Bar t b v ∷ []) new
counted_bar moves counts new t b v = counted_refusal moves counts new t (Bar t b v) (λ u. refl) (λ u. refl)
