-- The keys of a table of names, as the names that they are.
use Rattle.std.proofs.Common.{◌≡◌, ℕ, zero, suc, slice_get, subst, ◌+◌, ◌<◌, Bool, true, false, not, cond, ltb, ◌||◌, List, [], ◌∷◌, ◌++◌, length, map, position, Option, Some, None, is_some, option_map, refl, ap, ap₂, ◌∙◌, arith, bytes_eq}
use Rattle.std.specs.Prelude.{Vec}
use Rattle.std.specs.List.{list_any, position_or_len, IsDistinct, AllByRecursion}
use Rattle.std.proofs.lemmas.Map.Keys.{IsDistinct-head, IsDistinct-tail}
use Rattle.std.proofs.lemmas.Slice.Eq.{bytes_eq-Decides}
use Rattle.std.proofs.lemmas.List.{length-map}
use Rattle.std.proofs.lemmas.Option.{slice_get_within}
use Rattle.std.proofs.lemmas.Bool.{lt-ltb}
use Rattle.std.proofs.lemmas.Bool.Decides.{nat_tests}
use Rattle.std.specs.Cmp.Lexicographic.{nat_list_eq_equiv}
use Rattle.std.specs.declared.alloc.Global.{Global}
use Rattle.rl_drafts.specs.Drafts.{number_in}
use Rattle.rl_drafts.specs.Refusals.{is_among}
use Rattle.indexmap.specs.IndexSet.{insert_key}

-- the names that the keys are
abbrev pub names_of : List (Vec ℕ Global) → List (List ℕ)
names_of keys = map (λ k. k.items) keys

-- the first place at which a test passes, one item more
position_cons : (b : Bool) (n m : ℕ)
    → cond (ltb (cond (not b) (1 + n) 0) (suc m)) (Some (cond (not b) (1 + n) 0)) None ≡ cond b (Some 0) (option_map suc (cond (ltb n m) (Some n) None))
position_cons true n m = ap (λ t. cond t (Some 0) None) (lt-ltb 0 (suc m) (omega arith))
position_cons false n m = at (ltb n m) (ltb (1 + n) (suc m)) (grind (arith, nat_tests))
  where
    at : (b c : Bool) → c ≡ b → cond c (Some (1 + n)) None ≡ option_map suc (cond b (Some n) None)
    at true c e = ap (λ t. cond t (Some (1 + n)) None) e ∙ ap Some (omega arith)
    at false c e = ap (λ t. cond t (Some (1 + n)) None) e

-- the place of the key that has the name is the number of the name
pub position-number : (keys : List (Vec ℕ Global)) (q : List ℕ) → position (λ k. bytes_eq q k.items) keys ≡ number_in (names_of keys) q
position-number [] q = refl
position-number (k ∷ keys) q =
    position_cons (bytes_eq q k.items) (position_or_len (λ x. bytes_eq q x.items) keys) (length keys)
    ∙ ap₂ (λ b o. cond b (Some 0) (option_map suc o)) (nat_list_eq_equiv.symm q k.items) (position-number keys q)

-- keys of which no two are the same name
abbrev pub AreApart : List (Vec ℕ Global) → Type 0
AreApart keys = IsDistinct (λ x y. bytes_eq x.items y.items) keys

-- a key is apart from each later one
apart_at : (key : Vec ℕ Global) (keys : List (Vec ℕ Global)) (i : ℕ) (k : Vec ℕ Global) → AllByRecursion (λ y. bytes_eq key.items y.items ≡ false) keys
    → slice_get keys i ≡ Some k → bytes_eq key.items k.items ≡ false
apart_at key [] i k h e = cc
apart_at key (x ∷ keys) zero k h e = let same : x ≡ k = cc in subst (λ (y : Vec ℕ Global). bytes_eq key.items y.items ≡ false) same h.0
apart_at key (x ∷ keys) (suc i) k h e = apart_at key keys i k h.1 e

-- where no two keys are the same, the key at a place is found there
pub number-at : (keys : List (Vec ℕ Global)) (i : ℕ) (k : Vec ℕ Global) → AreApart keys → slice_get keys i ≡ Some k → number_in (names_of keys) k.items ≡ Some i
number-at [] i k apart e = cc
number-at (x ∷ keys) zero k apart e =
    let same : x ≡ k = cc in
    let here : bytes_eq x.items k.items ≡ true = (bytes_eq-Decides x.items k.items).1 (ap (λ (y : Vec ℕ Global). y.items) same) in
    rw here refl
number-at (x ∷ keys) (suc i) k apart e =
    let differs : bytes_eq x.items k.items ≡ false = apart_at x keys i k (IsDistinct-head _ x keys apart) e in
    let later = number-at keys i k (IsDistinct-tail _ x keys apart) e in
    rw (differs, later) refl

pub number_of_key : (keys : List (Vec ℕ Global)) (i : ℕ) (k : Vec ℕ Global) (q : List ℕ) → AreApart keys → slice_get keys i ≡ Some k → k.items ≡ q
    → (i < length (names_of keys)) × (number_in (names_of keys) q ≡ Some i)
number_of_key keys i k q apart e same =
    let within = slice_get_within keys i k e in
    let count = length-map keys (λ (x : Vec ℕ Global). x.items) in
    (omega (arith, count), subst (λ (n : List ℕ). number_in (names_of keys) n ≡ Some i) same (number-at keys i k apart e))

-- one of the keys has the name where it is among the names
any_cons : (b : Bool) (o : Option ℕ) (t : Bool) → t ≡ is_some o → (b || t) ≡ is_some (cond b (Some 0) (option_map suc o))
any_cons true o t e = refl
any_cons false None t e = e
any_cons false (Some i) t e = e

pub any-among : (keys : List (Vec ℕ Global)) (q : List ℕ) → list_any (λ k. bytes_eq q k.items) keys ≡ is_among (names_of keys) q
any-among [] q = refl
any-among (k ∷ keys) q =
    ap (λ b. b || list_any (λ x. bytes_eq q x.items) keys) (nat_list_eq_equiv.symm q k.items)
    ∙ any_cons (bytes_eq k.items q) (number_in (names_of keys) q) _ (any-among keys q)

-- the names after a new one is added
map_push : (keys : List (Vec ℕ Global)) (k : Vec ℕ Global) → names_of (keys ++ k ∷ []) ≡ names_of keys ++ k.items ∷ []
map_push [] k = refl
map_push (x ∷ keys) k = ap (λ r. x.items ∷ r) (map_push keys k)

pub names_added : (keys : List (Vec ℕ Global)) (k : Vec ℕ Global) → is_among (names_of keys) k.items ≡ false
    → names_of (insert_key (λ x y. bytes_eq x.items y.items) keys k) ≡ names_of keys ++ k.items ∷ []
names_added keys k new =
    ap (λ b. names_of (cond b keys (keys ++ k ∷ []))) (any-among keys k.items ∙ new) ∙ map_push keys k
