-- Items of a list: with one more at its end, with one written, and what holds of each.
use Rattle.std.proofs.Common.{◌≡◌, ℕ, zero, suc, ◌+◌, ◌<◌, List, [], ◌∷◌, ◌++◌, length, slice_get, slice_set, Some, ◌⊎◌, inl, inr, refl, ap, subst, length-append, arith}
use Rattle.std.specs.List.{AllByRecursion}
use Rattle.std.proofs.lemmas.Option.{same_Some}

pub one_longer : {A : Type 0} (xs : List A) (y : A) → length (xs ++ y ∷ []) ≡ length xs + 1
one_longer xs y = length-append xs (y ∷ [])

pub push_cases : {A : Type 0} (xs : List A) (y x : A) (k : ℕ) → slice_get (xs ++ y ∷ []) k ≡ Some x
    → ((k < length xs) × (slice_get xs k ≡ Some x)) ⊎ ((k ≡ length xs) × (y ≡ x))
push_cases [] y x zero at = inr (refl, same_Some y x at)
push_cases [] y x (suc k) at = absurd (cc)
push_cases (z ∷ zs) y x zero at = inl (omega arith, at)
push_cases (z ∷ zs) y x (suc k) at =
    elim (push_cases zs y x k at) [
      | inl old ↦ let within = old.0 in inl (omega arith, old.1)
      | inr new ↦ inr (ap suc new.0, new.1)
    ]

pub at_end : {A : Type 0} (xs : List A) (y : A) → slice_get (xs ++ y ∷ []) (length xs) ≡ Some y
at_end [] y = refl
at_end (x ∷ xs) y = at_end xs y

pub kept_get : {A : Type 0} (xs ys : List A) (k : ℕ) (x : A) → slice_get xs k ≡ Some x → slice_get (xs ++ ys) k ≡ Some x
kept_get [] ys k x at = absurd (cc)
kept_get (z ∷ zs) ys zero x at = at
kept_get (z ∷ zs) ys (suc k) x at = kept_get zs ys k x at

-- what holds of each item at another place, and of one more, holds of each after a write
pub each_but : {A : Type 0} (P : ℕ → A → Type 0) (xs : List A) (i : ℕ) (y : A) → ((k : ℕ) (x : A) → (k ≡ i → ⊥) → slice_get xs k ≡ Some x → P k x) → P i y
    → (k : ℕ) (x : A) → slice_get (slice_set xs i y) k ≡ Some x → P k x
each_but P [] i y others here k x at = absurd (cc)
each_but P (z ∷ zs) zero y others here zero x at = let is = same_Some y x at in subst (P 0) is here
each_but P (z ∷ zs) zero y others here (suc k) x at = others (suc k) x (λ e. omega arith) at
each_but P (z ∷ zs) (suc i) y others here zero x at = others 0 x (λ e. omega arith) at
each_but P (z ∷ zs) (suc i) y others here (suc k) x at =
    each_but (λ j. P (suc j)) zs i y (λ j w apart is. others (suc j) w (λ e. apart (omega arith)) is) here k x at

-- what holds of each item holds of one more, of one in the middle, and of one by its number
pub all_more : {A : Type 0} (P : A → Type 0) (xs : List A) (y : A) → AllByRecursion P xs → P y → AllByRecursion P (xs ++ y ∷ [])
all_more P [] y all here = (here, tt)
all_more P (x ∷ xs) y all here = (all.0, all_more P xs y all.1 here)

pub all_at : {A : Type 0} (P : A → Type 0) (xs ys : List A) (y : A) → AllByRecursion P (xs ++ y ∷ ys) → P y
all_at P [] ys y all = all.0
all_at P (x ∷ xs) ys y all = all_at P xs ys y all.1

pub all_get : {A : Type 0} (P : A → Type 0) (xs : List A) (k : ℕ) (x : A) → AllByRecursion P xs → slice_get xs k ≡ Some x → P x
all_get P [] k x all at = absurd (cc)
all_get P (z ∷ zs) zero x all at = subst P (same_Some z x at) all.0
all_get P (z ∷ zs) (suc k) x all at = all_get P zs k x all.1 at

pub all_weaker : {A : Type 0} (P Q : A → Type 0) (xs : List A) → ((x : A) → P x → Q x) → AllByRecursion P xs → AllByRecursion Q xs
all_weaker P Q [] so all = tt
all_weaker P Q (x ∷ xs) so all = (so x all.0, all_weaker P Q xs so all.1)
