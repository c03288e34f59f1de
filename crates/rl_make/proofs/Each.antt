-- What holds of the parts holds of all of them together.
use Rattle.std.proofs.Common.{◌≡◌, ℕ, zero, suc, ◌<◌, Bool, true, false, cond, eqb, ◌||◌, ◌&&◌, List, [], ◌∷◌, ◌++◌, length, length-append, ◌*◌, take, map}
use Rattle.std.proofs.Common.{subst, slice_get, is_some, bytes_eq, Option, Some, None, option_map, refl, sym, ap, ◌∙◌, append_assoc, append-nil, arith}
use Rattle.std.proofs.lemmas.Bool.{and_parts}
use Rattle.std.proofs.lemmas.Bool.Decides.{nat_tests}
use Rattle.std.proofs.lemmas.List.{map-append}
use Rattle.std.proofs.lemmas.List.Folds.{list_any-append, list_all-append, find-append}
use Rattle.std.specs.List.{list_any, list_all, find}
use Rattle.std.specs.Option.{option_map_or, option_or}
use Rattle.rl_drafts.specs.Drafts.{number_in}
use Rattle.rl_drafts.specs.Refusals.{is_among, is_twice}
use Rattle.rl_make.specs.Ring.{each}

-- no item passes
pub any_more : {A : Type 0} (p : A → Bool) (xs ys : List A) → list_any p xs ≡ false → list_any p ys ≡ false → list_any p (xs ++ ys) ≡ false
any_more p xs ys h k = rw (list_any-append, h, k)

pub any-each-none : {A : Type 0} (p : A → Bool) (f : ℕ → List A) (n : ℕ) → ((i : ℕ) → i < n → list_any p (f i) ≡ false) → list_any p (each f n) ≡ false
any-each-none p f zero none = refl
any-each-none p f (suc n) none = any_more p (each f n) (f n) (any-each-none p f n (λ i l. none i (omega arith))) (none n (omega arith))

-- an item of one part passes
or_last : (a b : Bool) → b ≡ true → (a || b) ≡ true
or_last true b h = refl
or_last false b h = h

or_first : (a b : Bool) → a ≡ true → (a || b) ≡ true
or_first true b h = refl
or_first false b h = cc

pub any-each-some : {A : Type 0} (p : A → Bool) (f : ℕ → List A) (n i : ℕ) → i < n → list_any p (f i) ≡ true → list_any p (each f n) ≡ true
any-each-some p f zero i l h = absurd (omega (arith, l))
any-each-some p f (suc n) i l h =
    list_any-append p (each f n) (f n) ∙ at (any-each-some p f n i) (eqb i n) refl
  where
    at : (i < n → list_any p (f i) ≡ true → list_any p (each f n) ≡ true) → (b : Bool) → eqb i n ≡ b → (list_any p (each f n) || list_any p (f n)) ≡ true
    at rest true e = let same : i ≡ n = grind (arith, nat_tests) in or_last (list_any p (each f n)) (list_any p (f n)) (rw (← same) h)
    at rest false e = let below : i < n = grind (arith, nat_tests) in or_first (list_any p (each f n)) (list_any p (f n)) (rest below h)

-- a test that no item passes fails at each place
pub none_at : {A : Type 0} (p : A → Bool) (xs : List A) → list_any p xs ≡ false → (i : ℕ) → option_map_or p (slice_get xs i) false ≡ false
none_at p [] h i = refl
none_at p (x ∷ xs) h zero = left (p x) (list_any p xs) h
  where
    left : (a b : Bool) → (a || b) ≡ false → a ≡ false
    left true b h = cc
    left false b h = refl
none_at p (x ∷ xs) h (suc i) = none_at p xs (right (p x) (list_any p xs) h) i
  where
    right : (a b : Bool) → (a || b) ≡ false → b ≡ false
    right true b h = cc
    right false b h = h

pub map-each : {A B : Type 0} (g : A → B) (f : ℕ → List A) (n : ℕ) → map g (each f n) ≡ each (λ i. map g (f i)) n
map-each g f zero = refl
map-each g f (suc n) = map-append g (each f n) (f n) ∙ ap (λ xs. xs ++ map g (f n)) (map-each g f n)

pub length-each : {A : Type 0} (f : ℕ → List A) (k : ℕ) → ((i : ℕ) → length (f i) ≡ k) → (n : ℕ) → length (each f n) ≡ n * k
length-each f k same zero = omega arith
length-each f k same (suc n) = length-append (each f n) (f n) ∙ omega (arith, length-each f k same n, same n)

-- a name is among names where one of them is the same
found_later : (o : Option ℕ) → is_some (option_map suc o) ≡ is_some o
found_later None = refl
found_later (Some k) = refl

pub among-any : (names : List (List ℕ)) (name : List ℕ) → is_among names name ≡ list_any (λ m. bytes_eq m name) names
among-any [] name = refl
among-any (m ∷ names) name = at (bytes_eq m name) (found_later (number_in names name) ∙ among-any names name)
  where
    at : (b : Bool) → is_some (option_map suc (number_in names name)) ≡ list_any (λ m. bytes_eq m name) names
        → is_some (cond b (Some 0) (option_map suc (number_in names name))) ≡ (b || list_any (λ m. bytes_eq m name) names)
    at true h = refl
    at false h = h

-- what R says of the items before an item and of it holds of none
abbrev pub Fresh : {A : Type 0} → (List A → A → Bool) → List A → List A → Type 0
Fresh R before [] = Unit {0}
Fresh R before (x ∷ xs) = (R before x ≡ false) × Fresh R (before ++ x ∷ []) xs

fresh-append : {A : Type 0} (R : List A → A → Bool) (before xs ys : List A) → Fresh R before xs → Fresh R (before ++ xs) ys → Fresh R before (xs ++ ys)
fresh-append {A} R before [] ys h k = let P : List A → Type 0 = λ zs. Fresh R zs ys in subst P (append-nil before) k
fresh-append {A} R before (x ∷ xs) ys h k =
    (h.0, fresh-append R (before ++ x ∷ []) xs ys h.1 (let P : List A → Type 0 = λ zs. Fresh R zs ys in subst P (sym (append_assoc before (x ∷ []) xs)) k))

pub each_fresh : {A : Type 0} (R : List A → A → Bool) (f : ℕ → List A) (n : ℕ) → ((m : ℕ) → m < n → Fresh R (each f m) (f m)) → Fresh R [] (each f n)
each_fresh R f zero h = tt
each_fresh R f (suc n) h = fresh-append R [] (each f n) (f n) (each_fresh R f n (λ m l. h m (omega arith))) (h n (omega arith))

fresh_at : {A : Type 0} (R : List A → A → Bool) (before xs : List A) → Fresh R before xs → (i : ℕ)
    → option_map_or (λ x. R (before ++ take i xs) x) (slice_get xs i) false ≡ false
fresh_at R before [] h i = refl
fresh_at R before (x ∷ xs) h zero = rw (append-nil before) h.0
fresh_at R before (x ∷ xs) h (suc i) = rw (← append_assoc before (x ∷ []) (take i xs)) (fresh_at R (before ++ x ∷ []) xs h.1 i)

pub fresh_all : {A : Type 0} (R : List A → A → Bool) (xs : List A) → Fresh R [] xs → (i : ℕ)
    → option_map_or (λ x. R (take i xs) x) (slice_get xs i) false ≡ false
fresh_all R xs h i = fresh_at R [] xs h i

-- no name is among those before it
abbrev pub is_one_of : List (List ℕ) → List ℕ → Bool
is_one_of names x = list_any (λ m. bytes_eq m x) names

same_test : {A : Type 0} (f g : A → Bool) (o : Option A) → ((x : A) → f x ≡ g x) → option_map_or f o false ≡ option_map_or g o false
same_test f g None h = refl
same_test f g (Some x) h = h x

pub twice-fresh : (names : List (List ℕ)) → Fresh is_one_of [] names → (i : ℕ) → is_twice names i ≡ false
twice-fresh names h i =
    same_test (is_among (take i names)) (is_one_of (take i names)) (slice_get names i) (λ x. among-any (take i names) x)
    ∙ fresh_all is_one_of names h i

-- the first item that passes stands in the first part that has one
find-each-none : {A : Type 0} (p : A → Bool) (f : ℕ → List A) (n : ℕ) → ((j : ℕ) → j < n → find p (f j) ≡ None) → find p (each f n) ≡ None
find-each-none p f zero none = refl
find-each-none p f (suc n) none = rw (find-append p (each f n) (f n), find-each-none p f n (λ j l. none j (omega arith)), none n (omega arith))

pub find-each : {A : Type 0} (p : A → Bool) (f : ℕ → List A) (n i : ℕ) (x : A) → i < n → ((j : ℕ) → j < i → find p (f j) ≡ None) → find p (f i) ≡ Some x
    → find p (each f n) ≡ Some x
find-each p f zero i x l none some = absurd (omega (arith, l))
find-each p f (suc n) i x l none some = find-append p (each f n) (f n) ∙ at (find-each p f n i x) (eqb i n) refl
  where
    at : (i < n → ((j : ℕ) → j < i → find p (f j) ≡ None) → find p (f i) ≡ Some x → find p (each f n) ≡ Some x) → (b : Bool) → eqb i n ≡ b
        → option_or (find p (each f n)) (find p (f n)) ≡ Some x
    at rest true e =
        let same : i ≡ n = grind (arith, nat_tests) in
        rw (find-each-none p f n (λ j m. none j (omega (arith, m, same)))) (rw (← same) some)
    at rest false e = let below : i < n = grind (arith, nat_tests) in rw (rest below none some)

-- what a test says of each number below n
abbrev pub all_below : (ℕ → Bool) → ℕ → Bool
all_below p zero = true
all_below p (suc n) = all_below p n && p n

pub below_passes : (p : ℕ → Bool) (n i : ℕ) → all_below p n ≡ true → i < n → p i ≡ true
below_passes p zero i h l = absurd (omega (arith, l))
below_passes p (suc n) i h l = at (below_passes p n i) (and_parts (all_below p n) (p n) h) (eqb i n) refl
  where
    at : (all_below p n ≡ true → i < n → p i ≡ true) → (all_below p n ≡ true) × (p n ≡ true) → (b : Bool) → eqb i n ≡ b → p i ≡ true
    at rest k true e = let same : i ≡ n = grind (arith, nat_tests) in rw same k.1
    at rest k false e = rest k.0 (grind (arith, nat_tests))

pub all-each : {A : Type 0} (p : A → Bool) (f : ℕ → List A) (n : ℕ) → ((i : ℕ) → i < n → list_all p (f i) ≡ true) → list_all p (each f n) ≡ true
all-each p f zero h = refl
all-each p f (suc n) h = rw (list_all-append, all-each p f n (λ i l. h i (omega arith)), h n (omega arith))
