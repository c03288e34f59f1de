-- The numbers of names in a table that is filled from the last name to the first.
use Rattle.std.proofs.Common.{◌≡◌, ℕ, zero, suc, ◌+◌, Bool, true, false, cond, List, [], ◌∷◌, drop, slice_get, Option, Some, None, option_map, bytes_eq, refl, sym, ap, ap₂, ◌∙◌, arith}
use Rattle.std.specs.Prelude.{Vec}
use Rattle.std.specs.declared.alloc.Global.{Global}
use Rattle.std.specs.Cmp.Lexicographic.{nat_list_eq_equiv}
use Rattle.std.proofs.lemmas.Option.{none-some, same_Some}
use Rattle.std.proofs.lemmas.Slice.Eq.{bytes_eq-Decides}
use Rattle.indexmap.specs.IndexMap.{insert_entry}
use Rattle.rl_drafts.specs.Drafts.{number_in}
use Rattle.rl_ends.specs.Tables.{Entries, noted, HasNumbers, HasNumber}

abbrev Key : Type 0
Key = Vec ℕ Global

-- what is noted after one name is noted
at_key : (q k e : List ℕ) (s t u : Bool) (v w : ℕ) (rest new : Option ℕ) → u ≡ bytes_eq k e → t ≡ bytes_eq q e → s ≡ bytes_eq q k
    → new ≡ cond s (Some v) rest → cond u (cond t (Some v) rest) (cond t (Some w) new) ≡ cond s (Some v) (cond t (Some w) rest)
at_key q k e true true true v w rest new a b c n = refl
at_key q k e false true true v w rest new a b c n =
    absurd (no ((bytes_eq-Decides q k).1 ((bytes_eq-Decides q e).0 (sym b) ∙ sym ((bytes_eq-Decides k e).0 (sym a)))))
  where
    no : bytes_eq q k ≡ true → ⊥
    no h = let f : false ≡ true = c ∙ h in cc
at_key q k e true false true v w rest new a b c n =
    absurd (no ((bytes_eq-Decides q e).1 ((bytes_eq-Decides q k).0 (sym c) ∙ (bytes_eq-Decides k e).0 (sym a))))
  where
    no : bytes_eq q e ≡ true → ⊥
    no h = let f : false ≡ true = b ∙ h in cc
at_key q k e false false true v w rest new a b c n = refl
at_key q k e true true false v w rest new a b c n =
    absurd (no ((bytes_eq-Decides k e).1 (sym ((bytes_eq-Decides q k).0 (sym c)) ∙ (bytes_eq-Decides q e).0 (sym b))))
  where
    no : bytes_eq k e ≡ true → ⊥
    no h = let f : false ≡ true = a ∙ h in cc
at_key q k e true false false v w rest new a b c n = n
at_key q k e false true false v w rest new a b c n = refl
at_key q k e false false false v w rest new a b c n = n

pub noted_more : (es : Entries) (k : Key) (v : ℕ) (q : List ℕ)
    → noted (insert_entry (λ (x y : Key). bytes_eq x.items y.items) es k v) q ≡ cond (bytes_eq q k.items) (Some v) (noted es q)
noted_more [] k v q = refl
noted_more (e ∷ es) k v q =
    push (bytes_eq k.items e.0.items)
    ∙ at_key q k.items e.0.items (bytes_eq q k.items) (bytes_eq q e.0.items) (bytes_eq k.items e.0.items) v e.1 (noted es q) _ refl refl refl (noted_more es k v q)
  where
    push : (u : Bool)
        → noted (cond u ((e.0, v) ∷ es) (e ∷ insert_entry (λ (x y : Key). bytes_eq x.items y.items) es k v)) q
        ≡ cond u (cond (bytes_eq q e.0.items) (Some v) (noted es q))
        (cond (bytes_eq q e.0.items) (Some e.1) (noted (insert_entry (λ (x y : Key). bytes_eq x.items y.items) es k v) q))
    push true = refl
    push false = refl

-- the numbers of the names from place i on
abbrev pub HasNumbersFrom : Entries → ℕ → List (List ℕ) → Type 0
HasNumbersFrom entries i names = (q : List ℕ) → noted entries q ≡ option_map (λ (j : ℕ). i + j) (number_in (drop i names) q)

-- the names from a place on
drop_at_item : (names : List (List ℕ)) (i : ℕ) (name : List ℕ) → slice_get names i ≡ Some name → drop i names ≡ name ∷ drop (suc i) names
drop_at_item [] i name e = absurd (none-some name e)
drop_at_item (x ∷ xs) zero name e = ap (λ (n : List ℕ). n ∷ xs) (same_Some x name e)
drop_at_item (x ∷ xs) (suc i) name e = drop_at_item xs i name e

-- one name further to the front
further : (t : Bool) (i : ℕ) (o : Option ℕ)
    → cond t (Some i) (option_map (λ (j : ℕ). suc i + j) o) ≡ option_map (λ (j : ℕ). i + j) (cond t (Some 0) (option_map suc o))
further true i o = ap Some (omega arith)
further false i None = refl
further false i (Some j) = ap Some (omega arith)

pub HasNumbersFrom-more : (old new : Entries) (names : List (List ℕ)) (i : ℕ) (name : List ℕ) → slice_get names i ≡ Some name → HasNumber old new name i
    → HasNumbersFrom old (suc i) names → HasNumbersFrom new i names
HasNumbersFrom-more old new names i name e note before q =
    note q
    ∙ (ap₂ (λ (t : Bool) (o : Option ℕ). cond t (Some i) o) (nat_list_eq_equiv.symm q name) (before q)
    ∙ (further (bytes_eq name q) i (number_in (drop (suc i) names) q)
    ∙ sym (ap (λ (ns : List (List ℕ)). option_map (λ (j : ℕ). i + j) (number_in ns q)) (drop_at_item names i name e))))

-- the numbers of all names
plus_nothing : (i : ℕ) (o : Option ℕ) → i ≡ 0 → option_map (λ (j : ℕ). i + j) o ≡ o
plus_nothing i None e = refl
plus_nothing i (Some j) e = ap Some (omega arith)

pub HasNumbersFrom-all : (entries : Entries) (names : List (List ℕ)) (i : ℕ) → i ≡ 0 → HasNumbersFrom entries i names → HasNumbers entries names
HasNumbersFrom-all entries names i e h q =
    h q ∙ (plus_nothing i (number_in (drop i names) q) e ∙ ap (λ (k : ℕ). number_in (drop k names) q) e)
