-- Which events stand in a list, by recursion on it.
use Rattle.std.proofs.Common.{◌≡◌, ℕ, zero, suc, ◌==◌, Bool, true, false, cond, ◌⊎◌, inl, inr, List, [], ◌∷◌, ◌++◌, reverse, filter, Contains, refl, sym, ap, ◌∙◌, subst, arith}
use Rattle.std.proofs.lemmas.Bool.Decides.{nat_tests}
use Rattle.std.proofs.lemmas.Grind.{reverse_onto}
use Rattle.rl_record.specs.declared.event.Event.{Event}
use Rattle.rl_record.specs.Merge.{history}

abbrev pub Has : List Event → Event → Type 0
Has [] e = ⊥
Has (x ∷ xs) e = (x ≡ e) ⊎ Has xs e

pub has_from_contains : (xs : List Event) (e : Event) → Contains xs e → Has xs e
has_from_contains [] e (k, within, is) = absurd (omega (arith, within))
has_from_contains (x ∷ xs) e (zero, within, is) = inl is
has_from_contains (x ∷ xs) e (suc k, within, is) = inr (has_from_contains xs e (k, omega (arith, within), is))

pub contains_from_has : (xs : List Event) (e : Event) → Has xs e → Contains xs e
contains_from_has [] e h = absurd h
contains_from_has (x ∷ xs) e (inl is) = (0, omega arith, is)
contains_from_has (x ∷ xs) e (inr h) = let at = contains_from_has xs e h in (suc at.0, omega (arith, at.1), at.2)

pub has_left : (xs ys : List Event) (e : Event) → Has xs e → Has (xs ++ ys) e
has_left [] ys e h = absurd h
has_left (x ∷ xs) ys e (inl is) = inl is
has_left (x ∷ xs) ys e (inr h) = inr (has_left xs ys e h)

pub has_right : (xs ys : List Event) (e : Event) → Has ys e → Has (xs ++ ys) e
has_right [] ys e h = h
has_right (x ∷ xs) ys e h = inr (has_right xs ys e h)

pub has_either : (xs ys : List Event) (e : Event) → Has (xs ++ ys) e → Has xs e ⊎ Has ys e
has_either [] ys e h = inr h
has_either (x ∷ xs) ys e (inl is) = inl (inl is)
has_either (x ∷ xs) ys e (inr h) = elim (has_either xs ys e h) [ inl a ↦ inl (inr a) | inr b ↦ inr b ]

pub has_in_reverse : (xs : List Event) (e : Event) → Has xs e → Has (reverse xs) e
has_in_reverse [] e h = h
has_in_reverse (x ∷ xs) e h =
    let P : List Event → Type 0 = λ l. Has l e in
    subst P (sym (reverse_onto xs x [])) (elim h [
      | inl is ↦ has_right (reverse xs) (x ∷ []) e (inl is)
      | inr there ↦ has_left (reverse xs) (x ∷ []) e (has_in_reverse xs e there)
    ])

pub has_from_reverse : (xs : List Event) (e : Event) → Has (reverse xs) e → Has xs e
has_from_reverse [] e h = h
has_from_reverse (x ∷ xs) e h =
    let P : List Event → Type 0 = λ l. Has l e in
    elim (has_either (reverse xs) (x ∷ []) e (subst P (reverse_onto xs x []) h)) [
      | inl there ↦ inr (has_from_reverse xs e there)
      | inr (inl is) ↦ inl is
      | inr (inr none) ↦ absurd none
    ]

-- what a test keeps
pub has_in_filter : (p : Event → Bool) (xs : List Event) (e : Event) → Has xs e → p e ≡ true → Has (filter p xs) e
has_in_filter p [] e h passes = h
has_in_filter p (x ∷ xs) e (inl is) passes =
    let P : Bool → Type 0 = λ b. Has (cond b (x ∷ filter p xs) (filter p xs)) e in
    let kept : p x ≡ true = ap p is ∙ passes in
    subst P (sym kept) (inl is)
has_in_filter p (x ∷ xs) e (inr h) passes =
    let rest = has_in_filter p xs e h passes in
    elim (p x) as (λ b. Has (cond b (x ∷ filter p xs) (filter p xs)) e) [ true ↦ inr rest | false ↦ rest ]

has_from_kept : (p : Event → Bool) (x : Event) (xs : List Event) (e : Event) (b : Bool) → p x ≡ b
    → (Has (filter p xs) e → Has xs e × (p e ≡ true)) → Has (cond b (x ∷ filter p xs) (filter p xs)) e → Has (x ∷ xs) e × (p e ≡ true)
has_from_kept p x xs e true is rest (inl same) = (inl same, ap p (sym same) ∙ is)
has_from_kept p x xs e true is rest (inr h) = let found = rest h in (inr found.0, found.1)
has_from_kept p x xs e false is rest h = let found = rest h in (inr found.0, found.1)

pub has_from_filter : (p : Event → Bool) (xs : List Event) (e : Event) → Has (filter p xs) e → Has xs e × (p e ≡ true)
has_from_filter p [] e h = absurd h
has_from_filter p (x ∷ xs) e h = has_from_kept p x xs e (p x) refl (has_from_filter p xs e) h

-- of a history
pub own_node : (e : Event) → (e.node.0 == e.node.0) ≡ true
own_node e = grind (arith, nat_tests)

pub has_in_history : (xs : List Event) (e : Event) → Has xs e → Has (history e.node.0 xs) e
has_in_history xs e h = has_in_filter (λ f. f.node.0 == e.node.0) xs e h (own_node e)

pub has_from_history : (n : ℕ) (xs : List Event) (e : Event) → Has (history n xs) e → Has xs e × (e.node.0 ≡ n)
has_from_history n xs e h =
    let found = has_from_filter (λ f. f.node.0 == n) xs e h in
    let is : (e.node.0 == n) ≡ true = found.1 in
    (found.0, grind (arith, nat_tests))
