-- Look-ups in a list by number: after a push, and after a write.
use Rattle.std.proofs.Common.{◌≡◌, ℕ, ◌<◌, ◌==◌, false, cond, List, [], ◌∷◌, slice_get, slice_set, Some, refl, ap, arith, zero, suc, inl, inr}
use Rattle.std.specs.Option.{option_map_or}
use Rattle.std.proofs.lemmas.Bool.{ne_eqb, cases_eq}
use Rattle.std.proofs.lemmas.Bool.Decides.{nat_tests}

-- what holds of each item and of one more holds of each after a write
pub each_set : {A : Type 0} (P : ℕ → A → Type 0) (xs : List A) (i : ℕ) (y : A) → ((k : ℕ) (x : A) → slice_get xs k ≡ Some x → P k x) → P i y → (k : ℕ) (x : A)
    → slice_get (slice_set xs i y) k ≡ Some x → P k x
each_set P [] i y each here k x is = absurd (cc)
each_set P (z ∷ xs) zero y each here zero x is = let same : y ≡ x = cc in rw (← same) here
each_set P (z ∷ xs) zero y each here (suc k) x is = each (suc k) x is
each_set P (z ∷ xs) (suc i) y each here zero x is = each zero x is
each_set P (z ∷ xs) (suc i) y each here (suc k) x is = each_set (λ n. P (suc n)) xs i y (λ n. each (suc n)) here k x is

suc_is_zero : (j : ℕ) → (suc j == 0) ≡ false
suc_is_zero j = ne_eqb (suc j) 0 (λ e. omega arith)

zero_is_suc : (i : ℕ) → (0 == suc i) ≡ false
zero_is_suc i = ne_eqb 0 (suc i) (λ e. omega arith)

suc_is_suc : (j i : ℕ) → (suc j == suc i) ≡ (j == i)
suc_is_suc j i = grind (arith, nat_tests)

-- after a write at i the look-up at i gives what was written, and every other what it gave
pub look_set : {A B : Type 0} (f : A → B) (xs : List A) (i j : ℕ) (a y : A) (d : B) → slice_get xs i ≡ Some a
    → option_map_or f (slice_get (slice_set xs i y) j) d ≡ cond (j == i) (f y) (option_map_or f (slice_get xs j) d)
look_set f [] i j a y d is = absurd (cc)
look_set f (x ∷ xs) zero zero a y d is = refl
look_set f (x ∷ xs) zero (suc j) a y d is = rw suc_is_zero refl
look_set f (x ∷ xs) (suc i) zero a y d is = rw zero_is_suc refl
look_set f (x ∷ xs) (suc i) (suc j) a y d is = rw suc_is_suc (look_set f xs i j a y d is)

-- the look-up at i after a write at i, and at another place
pub get_set_same : {A : Type 0} (xs : List A) (i : ℕ) (a y : A) → slice_get xs i ≡ Some a → slice_get (slice_set xs i y) i ≡ Some y
get_set_same [] i a y is = absurd (cc)
get_set_same (x ∷ xs) zero a y is = refl
get_set_same (x ∷ xs) (suc i) a y is = get_set_same xs i a y is

pub get_set_other : {A : Type 0} (xs : List A) (i j : ℕ) (y : A) → (j ≡ i → ⊥) → slice_get (slice_set xs i y) j ≡ slice_get xs j
get_set_other [] i j y other = refl
get_set_other (x ∷ xs) zero zero y other = absurd (other refl)
get_set_other (x ∷ xs) zero (suc j) y other = refl
get_set_other (x ∷ xs) (suc i) zero y other = refl
get_set_other (x ∷ xs) (suc i) (suc j) y other = get_set_other xs i j y (λ same. other (ap suc same))

-- what a look-up reads and the write keeps is kept at every place
pub look_kept : {A B : Type 0} (f : A → B) (xs : List A) (i j : ℕ) (a y : A) (d : B) → slice_get xs i ≡ Some a → f y ≡ f a
    → option_map_or f (slice_get (slice_set xs i y) j) d ≡ option_map_or f (slice_get xs j) d
look_kept f xs i j a y d is keeps =
    elim (cases_eq j i) [
      | inl same ↦ rw (same, get_set_same xs i a y is, is) keeps
      | inr other ↦ rw (get_set_other xs i j y other) refl
    ]

-- what holds at 0, 1, 2 and 3 holds below 4
pub below_four : (P : ℕ → Type 0) → P 0 → P 1 → P 2 → P 3 → (i : ℕ) → i < 4 → P i
below_four P p0 p1 p2 p3 zero within = p0
below_four P p0 p1 p2 p3 (suc zero) within = p1
below_four P p0 p1 p2 p3 (suc (suc zero)) within = p2
below_four P p0 p1 p2 p3 (suc (suc (suc zero))) within = p3
below_four P p0 p1 p2 p3 (suc (suc (suc (suc i)))) within = absurd (omega arith)
