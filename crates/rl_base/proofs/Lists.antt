-- A list by its places, when it grows at its end.
use Rattle.std.proofs.Common.{◌≡◌, ℕ, zero, suc, ◌<◌, List, [], ◌∷◌, ◌++◌, length, slice_get, Some, refl, arith}

-- what stood in the list stands where it stood
pub slice_get-append : {A : Type 0} (xs ys : List A) (k : ℕ) → k < length xs → slice_get (xs ++ ys) k ≡ slice_get xs k
slice_get-append [] ys k within = absurd (omega arith)
slice_get-append (x ∷ xs) ys zero within = refl
slice_get-append (x ∷ xs) ys (suc k) within = slice_get-append xs ys k (omega arith)

-- and the new item stands behind it
pub slice_get-push : {A : Type 0} (xs : List A) (y : A) → slice_get (xs ++ y ∷ []) (length xs) ≡ Some y
slice_get-push [] y = refl
slice_get-push (x ∷ xs) y = slice_get-push xs y

-- what holds of each item, and of one more, holds of each after the push
pub each_push : {A : Type 0} (P : ℕ → A → Type 0) (xs : List A) (y : A) → ((k : ℕ) (x : A) → slice_get xs k ≡ Some x → P k x) → P (length xs) y
    → (k : ℕ) (x : A) → slice_get (xs ++ y ∷ []) k ≡ Some x → P k x
each_push P [] y each here zero x is = let same : y ≡ x = cc in rw (← same) here
each_push P [] y each here (suc k) x is = absurd (cc)
each_push P (z ∷ xs) y each here zero x is = each zero x is
each_push P (z ∷ xs) y each here (suc k) x is = each_push (λ n. P (suc n)) xs y (λ n. each (suc n)) here k x is
