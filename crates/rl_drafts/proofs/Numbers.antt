-- Names become numbers: the first place at which a name stands.
use Rattle.std.proofs.Common.{◌≡◌, ℕ, zero, suc, ◌<◌, Bool, true, false, cond, List, [], ◌∷◌, take, slice_get, is_some, bytes_eq, Option, Some, None, option_map, ⊎_elim, refl, ap, ◌∙◌, subst}
use Rattle.std.proofs.lemmas.Bool.{both_ways, cases_order}
use Rattle.std.proofs.lemmas.Option.{none-some, same_Some}
use Rattle.std.proofs.lemmas.Slice.Eq.{bytes_eq-Decides}
use Rattle.rl_drafts.specs.Drafts.{number_in}
use Rattle.rl_drafts.specs.Refusals.{is_among, is_twice}
use Rattle.rl_drafts.proofs.Lookups.{map_some, some_value, test_fails, item_before}

-- texts that pass the test are the same
pub same_from_bytes_eq : (a b : List ℕ) → bytes_eq a b ≡ true → a ≡ b
same_from_bytes_eq a b = (bytes_eq-Decides a b).0

-- and the same text passes it
pub bytes_eq_from_same : (a b : List ℕ) → a ≡ b → bytes_eq a b ≡ true
bytes_eq_from_same a b = (bytes_eq-Decides a b).1

-- the name at the number of a name is the name
pub number_in-item : (names : List (List ℕ)) (name : List ℕ) (k : ℕ) → number_in names name ≡ Some k → slice_get names k ≡ Some name
number_in-item [] name k e = absurd (none-some k e)
number_in-item (n ∷ names) name k e = at (bytes_eq n name) refl (number_in-item names name) k e
  where
    at : (t : Bool) → bytes_eq n name ≡ t → ((j : ℕ) → number_in names name ≡ Some j → slice_get names j ≡ Some name) → (k : ℕ)
        → cond t (Some 0) (option_map suc (number_in names name)) ≡ Some k → slice_get (n ∷ names) k ≡ Some name
    at true b rest k e =
        subst (λ (m : ℕ). slice_get (n ∷ names) m ≡ Some name) (same_Some 0 k e) (ap (λ (x : List ℕ). Some x) (same_from_bytes_eq n name b))
    at false b rest k e =
        let h = map_some suc (number_in names name) k e in
        subst (λ (m : ℕ). slice_get (n ∷ names) m ≡ Some name) h.2 (rest h.0 h.1)

-- a name of the list has a number
pub is_among-item : (names : List (List ℕ)) (name : List ℕ) (k : ℕ) → slice_get names k ≡ Some name → is_among names name ≡ true
is_among-item [] name k e = absurd (none-some name e)
is_among-item (n ∷ names) name zero e =
    ap (λ (t : Bool). is_some (cond t (Some 0) (option_map suc (number_in names name)))) (bytes_eq_from_same n name (same_Some n name e))
is_among-item (n ∷ names) name (suc k) e = at (bytes_eq n name) (number_in names name) (is_among-item names name k e)
  where
    at : (t : Bool) (o : Option ℕ) → is_some o ≡ true → is_some (cond t (Some 0) (option_map suc o)) ≡ true
    at true o h = refl
    at false (Some j) h = refl
    at false None h = h

-- equal names stand at one place
pub record AreDistinct (names : List (List ℕ)) : Type 0 where
  pub same : (i j : ℕ) (name : List ℕ) → slice_get names i ≡ Some name → slice_get names j ≡ Some name → i ≡ j

-- a name that an earlier one is too
twice-earlier : (names : List (List ℕ)) (i j : ℕ) (name : List ℕ) → i < j → slice_get names i ≡ Some name → slice_get names j ≡ Some name
    → is_twice names j ≡ false → ⊥
twice-earlier names i j name l a b e =
    both_ways (is_among (take j names) name) (test_fails (is_among (take j names)) (slice_get names j) name b e)
    (is_among-item (take j names) name i (item_before j i names l ∙ a))

-- names of which none is twice there are distinct
pub AreDistinct-from_twice : (names : List (List ℕ)) → ((i : ℕ) → is_twice names i ≡ false) → AreDistinct names
AreDistinct-from_twice names none = record { same = at }
  where
    at : (i j : ℕ) (name : List ℕ) → slice_get names i ≡ Some name → slice_get names j ≡ Some name → i ≡ j
    at i j name a b =
        ⊎_elim (λ e. e)
        (λ h. ⊎_elim (λ l. absurd (twice-earlier names i j name l a b (none j))) (λ l. absurd (twice-earlier names j i name l b a (none i))) h)
        (cases_order i j)

-- of distinct names the number is the place
pub number_in-place : (names : List (List ℕ)) → AreDistinct names → (name : List ℕ) (k : ℕ) → slice_get names k ≡ Some name → number_in names name ≡ Some k
number_in-place names distinct name k e =
    let h = some_value (number_in names name) (is_among-item names name k e) in
    h.1 ∙ ap (λ (j : ℕ). Some j) (distinct.same h.0 k name (number_in-item names name h.0 h.1) e)
