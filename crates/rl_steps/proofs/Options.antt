-- Options that are something.
use Rattle.std.proofs.Common.{◌≡◌, ℕ, zero, suc, ◌≡◌, List, [], ◌∷◌, slice_get, slice_set, Option, Some, None, option_map, option_and_then, refl, ap}

pub from_map : {A B : Type 0} (f : A → B) (o : Option A) (b : B) → option_map f o ≡ Some b → (a : A) × (o ≡ Some a) × (f a ≡ b)
from_map f None b e = absurd (cc)
from_map f (Some a) b e = (a, refl, cc)

pub from_then : {A B : Type 0} (f : A → Option B) (o : Option A) (b : B) → option_and_then f o ≡ Some b → (a : A) × (o ≡ Some a) × (f a ≡ Some b)
from_then f None b e = absurd (cc)
from_then f (Some a) b e = (a, refl, e)

-- a list after a write, at the place written and at every other
pub get_set_same : {A : Type 0} (xs : List A) (i : ℕ) (a y : A) → slice_get xs i ≡ Some a → slice_get (slice_set xs i y) i ≡ Some y
get_set_same [] i a y is = absurd (cc)
get_set_same (x ∷ xs) zero a y is = refl
get_set_same (x ∷ xs) (suc i) a y is = get_set_same xs i a y is

pub get_set_other : {A : Type 0} (xs : List A) (i j : ℕ) (y : A) → (j ≡ i → ⊥) → slice_get (slice_set xs i y) j ≡ slice_get xs j
get_set_other [] i j y other = refl
get_set_other (x ∷ xs) zero zero y other = absurd (other refl)
get_set_other (x ∷ xs) zero (suc j) y other = refl
get_set_other (x ∷ xs) (suc i) zero y other = refl
get_set_other (x ∷ xs) (suc i) (suc j) y other = get_set_other xs i j y (λ same. other (ap suc same))

pub same_some : {A : Type 0} (o : Option A) (x y : A) → o ≡ Some x → o ≡ Some y → x ≡ y
same_some o x y a b = cc
