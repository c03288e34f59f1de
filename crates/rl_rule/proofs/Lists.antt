-- Lists by places, and sums of numbers below a bound.
use Rattle.std.proofs.Common.{◌≡◌, ℕ, zero, suc, ◌+◌, ◌*◌, ◌<◌, ◌≤◌, ◌==◌, ◌⊎◌, List, [], ◌∷◌, ◌++◌, length, filter, slice_get, slice_index}
use Rattle.std.proofs.Common.{slice_set, Some, refl, sym, ap, ◌∙◌, inl, inr, ⊎_elim, if◌then◌else◌, Bool, true, false, eq-eqb}
use Rattle.std.proofs.Common.{take, add-one, arith}
use Rattle.std.proofs.lemmas.Bool.{cases_eq, cases_lt, ne_eqb}
use mathlib.Core.Option.{some, some-injective, some-ne-none}
use lib.ListN.{get_elem?}
use Rattle.rl_rule.specs.Histories.{sum_below}

-- a list that is written with what it has is the same list
pub set_same : (xs : List ℕ) (i : ℕ) → slice_set xs i (slice_index xs i) ≡ xs
set_same [] i = refl
set_same (x ∷ xs) zero = refl
set_same (x ∷ xs) (suc i) = ap (λ (l : List ℕ). x ∷ l) (set_same xs i)

pub get_index : (xs : List ℕ) (i : ℕ) → i < length xs → slice_get xs i ≡ Some (slice_index xs i)
get_index [] i within = absurd (omega arith)
get_index (x ∷ xs) zero within = refl
get_index (x ∷ xs) (suc i) within = get_index xs i (omega arith)

module _ {A : Type 0} where
  pub take_next : (xs : List A) (i : ℕ) (x : A) → get_elem? xs i ≡ some x → take (i + 1) xs ≡ take i xs ++ x ∷ []
  take_next xs i x at = rw add-one (by xs i at)
    where
      by : (ys : List A) (j : ℕ) → get_elem? ys j ≡ some x → take (suc j) ys ≡ take j ys ++ x ∷ []
      by [] j e = absurd (some-ne-none x (sym e))
      by (y ∷ ys) zero e = ap (λ (z : A). z ∷ []) (some-injective y x e)
      by (y ∷ ys) (suc j) e = ap (λ (l : List A). y ∷ l) (by ys j e)

  -- an item of a list with one more is an item of the list, or the last
  pub at_end : (l : List A) (a b : A) (j : ℕ) → get_elem? (l ++ a ∷ []) j ≡ some b → (get_elem? l j ≡ some b) ⊎ ((j ≡ length l) × (a ≡ b))
  at_end [] a b zero e = inr (refl, some-injective a b e)
  at_end [] a b (suc j) e = absurd (some-ne-none b (sym e))
  at_end (x ∷ xs) a b zero e = inl e
  at_end (x ∷ xs) a b (suc j) e =
      ⊎_elim (λ (t : get_elem? xs j ≡ some b). inl t) (λ (t : (j ≡ length xs) × (a ≡ b)). inr (ap suc t.0, t.1)) (at_end xs a b j e)

  pub at_within : (l : List A) (j : ℕ) (b : A) → get_elem? l j ≡ some b → j < length l
  at_within [] j b e = absurd (some-ne-none b (sym e))
  at_within (x ∷ xs) zero b e = omega arith
  at_within (x ∷ xs) (suc j) b e = omega (arith, at_within xs j b e)

  pub same_at : (l : List A) (j : ℕ) (a b : A) → get_elem? l j ≡ some a → get_elem? l j ≡ some b → a ≡ b
  same_at l j a b x y = some-injective a b (sym x ∙ y)

sum_zero : (k : ℕ) → sum_below k (λ n. 0) ≡ 0
sum_zero zero = refl
sum_zero (suc k) = omega (arith, sum_zero k)

pub sum_same : (k : ℕ) (f g : ℕ → ℕ) → ((n : ℕ) → f n ≡ g n) → sum_below k f ≡ sum_below k g
sum_same zero f g same = refl
sum_same (suc k) f g same = omega (arith, sum_same k f g same, same k)

pub sum_most : (k most : ℕ) (f : ℕ → ℕ) → ((n : ℕ) → f n ≤ most) → sum_below k f ≤ k * most
sum_most zero most f few = omega arith
sum_most (suc k) most f few =
    let before : sum_below k f ≤ k * most = sum_most k most f few in
    let here : f k ≤ most = few k in
    omega arith

-- f with one more at m
abbrev one_more : (ℕ → ℕ) → ℕ → ℕ → ℕ
one_more f m n = if m == n then suc (f n) else f n

sum_past : (k m : ℕ) (f : ℕ → ℕ) → k ≤ m → sum_below k (one_more f m) ≡ sum_below k f
sum_past zero m f past = refl
sum_past (suc k) m f past =
    let before : sum_below k (one_more f m) ≡ sum_below k f = sum_past k m f (omega arith) in
    let other : (m ≡ k → ⊥) = λ e. omega arith in
    let here : one_more f m k ≡ f k = rw (ne_eqb m k other) refl in
    omega arith

sum_more : (k m : ℕ) (f : ℕ → ℕ) → m < k → sum_below k (one_more f m) ≡ suc (sum_below k f)
sum_more zero m f within = absurd (omega arith)
sum_more (suc k) m f within =
    elim (cases_eq m k) [
      | inl same ↦
          let before : sum_below k (one_more f m) ≡ sum_below k f = sum_past k m f (omega arith) in
          let here : one_more f m k ≡ suc (f k) = rw (eq-eqb m k same) refl in
          omega arith
      | inr other ↦
          let before : sum_below k (one_more f m) ≡ suc (sum_below k f) = sum_more k m f (omega arith) in
          let here : one_more f m k ≡ f k = rw (ne_eqb m k other) refl in
          omega arith
    ]

module _ {A : Type 0} (g : A → ℕ) where
  -- the items of which g is n
  abbrev pub bucket : ℕ → List A → List A
  bucket n xs = filter (λ x. g x == n) xs

  bucket_length : (n : ℕ) (x : A) (xs : List A) → length (bucket n (x ∷ xs)) ≡ one_more (λ k. length (bucket k xs)) (g x) n
  bucket_length n x xs = by (g x == n)
    where
      by : (b : Bool) → length {A = A} (if b then x ∷ bucket n xs else bucket n xs) ≡ (if b then suc (length (bucket n xs)) else length (bucket n xs))
      by true = refl
      by false = refl

  -- where no item has a number from k on, the buckets below k have all items
  pub in_buckets : (k : ℕ) (xs : List A) → ((n : ℕ) → k ≤ n → length (bucket n xs) ≡ 0) → sum_below k (λ n. length (bucket n xs)) ≡ length xs
  in_buckets k [] none = sum_zero k
  in_buckets k (x ∷ xs) none =
      let f : ℕ → ℕ = λ n. length (bucket n xs) in
      let less : (n : ℕ) → k ≤ n → length (bucket n xs) ≡ 0 = λ n past. fewer n x xs (none n past) in
      let before : sum_below k (λ n. length (bucket n xs)) ≡ length xs = in_buckets k xs less in
      elim (cases_lt (g x) k) [
        | inl within ↦ sum_same k (λ n. length (bucket n (x ∷ xs))) (one_more (λ n. length (bucket n xs)) (g x)) (λ n. bucket_length n x xs)
            ∙ (sum_more k (g x) (λ n. length (bucket n xs)) within ∙ ap suc before)
        | inr past ↦
            let here : length (bucket (g x) (x ∷ xs)) ≡ suc (length (bucket (g x) xs)) = bucket_length (g x) x xs ∙ (rw (eq-eqb (g x) (g x) refl) refl) in
            absurd (omega (arith, none (g x) past))
      ]
    where
      fewer : (n : ℕ) (x : A) (xs : List A) → length (bucket n (x ∷ xs)) ≡ 0 → length (bucket n xs) ≡ 0
      fewer n x xs e =
          elim (cases_eq (g x) n) [
            | inl same ↦
                let here : length (bucket n (x ∷ xs)) ≡ suc (length (bucket n xs)) = bucket_length n x xs ∙ (rw (eq-eqb (g x) n same) refl) in
                absurd (omega arith)
            | inr other ↦
                let here : length (bucket n (x ∷ xs)) ≡ length (bucket n xs) = bucket_length n x xs ∙ (rw (ne_eqb (g x) n other) refl) in
                omega arith
          ]

-- where numbers of at most 1 add up to their number, each is 1
pub each_one : (k : ℕ) (f : ℕ → ℕ) → ((n : ℕ) → f n ≤ 1) → sum_below k f ≡ k → (n : ℕ) → n < k → f n ≡ 1
each_one zero f few all n within = absurd (omega arith)
each_one (suc k) f few all n within =
    let most : sum_below k f ≤ k * 1 = sum_most k 1 f few in
    let here : f k ≤ 1 = few k in
    let full : sum_below k f ≡ k = omega arith in
    elim (cases_eq n k) [
      | inl same ↦ rw same (omega arith)
      | inr other ↦ each_one k f few full n (omega arith)
    ]
