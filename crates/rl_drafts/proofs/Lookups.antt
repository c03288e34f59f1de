-- What is read from a list by its place.
use Rattle.std.proofs.Common.{◌≡◌, ℕ, zero, suc, ◌<◌, Bool, true, false, List, [], ◌∷◌, length, map, take, drop, slice_get, is_some, Option, Some, None, option_map, option_and_then, refl, sym, ap, ◌∙◌, arith}
use Rattle.std.proofs.lemmas.Bool.{false≢true, and_parts, or_left, or_right}
use Rattle.std.proofs.lemmas.Option.{none-some, same_Some, slice_get-map}
use Rattle.std.specs.Option.{option_map_or}
use Rattle.std.specs.List.{list_all, list_any}

-- what a mapped option holds comes from what the option holds
pub map_some : {A B : Type 0} (f : A → B) (o : Option A) (y : B) → option_map f o ≡ Some y → (x : A) × (o ≡ Some x) × (f x ≡ y)
map_some f None y e = absurd (none-some y e)
map_some f (Some x) y e = (x, refl, same_Some (f x) y e)

-- and likewise where the function may give nothing
pub then_some : {A B : Type 0} (f : A → Option B) (o : Option A) (y : B) → option_and_then f o ≡ Some y → (x : A) × (o ≡ Some x) × (f x ≡ Some y)
then_some f None y e = absurd (none-some y e)
then_some f (Some x) y e = (x, refl, e)

-- an option that isn't empty holds something
pub some_value : {A : Type 0} (o : Option A) → is_some o ≡ true → (x : A) × (o ≡ Some x)
some_value None e = absurd (false≢true e)
some_value (Some x) e = (x, refl)

-- a test that fails on what is there
pub test_fails : {X : Type 0} (test : X → Bool) (o : Option X) (x : X) → o ≡ Some x → option_map_or test o false ≡ false → test x ≡ false
test_fails {X = X} test o x e h = sym (ap (λ (w : Option X). option_map_or test w false) e) ∙ h

-- an item of a mapped list comes from the item of the list
pub mapped_item : {A B : Type 0} (f : A → B) (xs : List A) (k : ℕ) (y : B) → slice_get (map f xs) k ≡ Some y → (x : A) × (slice_get xs k ≡ Some x) × (f x ≡ y)
mapped_item f xs k y e = map_some f (slice_get xs k) y (sym (slice_get-map f xs k) ∙ e)

-- and the other way round
pub item_mapped : {A B : Type 0} (f : A → B) (xs : List A) (k : ℕ) (x : A) → slice_get xs k ≡ Some x → slice_get (map f xs) k ≡ Some (f x)
item_mapped f xs k x e = slice_get-map f xs k ∙ ap (option_map f) e

-- an item below n is among the first n
pub item_before : {X : Type 0} (n k : ℕ) (xs : List X) → k < n → slice_get (take n xs) k ≡ slice_get xs k
item_before zero k xs l = absurd (omega arith)
item_before (suc n) k [] l = refl
item_before (suc n) zero (x ∷ xs) l = refl
item_before (suc n) (suc k) (x ∷ xs) l = item_before n k xs (omega arith)

-- an item after the first
pub item_after_first : {X : Type 0} (xs : List X) (k : ℕ) → slice_get (drop 1 xs) k ≡ slice_get xs (suc k)
item_after_first [] k = refl
item_after_first (x ∷ xs) k = refl

-- a place within a list has an item
pub item_within : {X : Type 0} (xs : List X) (k : ℕ) → k < length xs → (x : X) × (slice_get xs k ≡ Some x)
item_within [] k l = absurd (omega arith)
item_within (x ∷ xs) zero l = (x, refl)
item_within (x ∷ xs) (suc k) l = item_within xs k (omega arith)

-- what passes on each item passes on the item at a place
pub all_at : {X : Type 0} (p : X → Bool) (xs : List X) (k : ℕ) (x : X) → list_all p xs ≡ true → slice_get xs k ≡ Some x → p x ≡ true
all_at p [] k x e h = absurd (none-some x h)
all_at p (y ∷ ys) zero x e h = ap p (sym (same_Some y x h)) ∙ (and_parts (p y) _ e).0
all_at p (y ∷ ys) (suc k) x e h = all_at p ys k x (and_parts (p y) _ e).1 h

-- what passes on the item at a place passes on some item
pub any_from : {X : Type 0} (p : X → Bool) (xs : List X) (k : ℕ) (x : X) → slice_get xs k ≡ Some x → p x ≡ true → list_any p xs ≡ true
any_from p [] k x h e = absurd (none-some x h)
any_from p (y ∷ ys) zero x h e = or_left (p y) _ (ap p (same_Some y x h) ∙ e)
any_from p (y ∷ ys) (suc k) x h e = or_right (p y) _ (any_from p ys k x h e)
