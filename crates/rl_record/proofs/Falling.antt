-- Lists in which each event comes after all that stand behind it: two of them with the same events are one.
use Rattle.std.proofs.Common.{◌≡◌, ℕ, inl, inr, Bool, true, false, cond, List, [], ◌∷◌, ◌++◌, filter, refl, sym, ◌∙◌, subst, arith}
use Rattle.rl_record.specs.declared.event.Event.{Event}
use Rattle.rl_record.specs.Merge.{IsBefore, IsAfterAll, Falls, IsMerge, history}
use Rattle.rl_record.proofs.Members.{Has, has_in_history, has_from_history}

pub never_both : (a b : Event) → IsBefore a b → IsBefore b a → ⊥
never_both a b (inl x) (inl y) = omega arith
never_both a b (inl x) (inr y) = omega arith
never_both a b (inr x) (inl y) = omega arith
never_both a b (inr x) (inr y) = omega arith

pub before_both : (a b c : Event) → IsBefore a b → IsBefore b c → IsBefore a c
before_both a b c (inl x) (inl y) = inl (omega arith)
before_both a b c (inl x) (inr y) = inl (omega arith)
before_both a b c (inr x) (inl y) = inl (omega arith)
before_both a b c (inr x) (inr y) = inr (omega arith, omega arith)

pub after_has : (x : Event) (xs : List Event) (e : Event) → IsAfterAll x xs → Has xs e → IsBefore e x
after_has x [] e after h = absurd h
after_has x (y ∷ ys) e after (inl is) = let P : Event → Type 0 = λ f. IsBefore f x in subst P is after.0
after_has x (y ∷ ys) e after (inr h) = after_has x ys e after.1 h

pub after_filter : (p : Event → Bool) (x : Event) (xs : List Event) → IsAfterAll x xs → IsAfterAll x (filter p xs)
after_filter p x [] after = tt
after_filter p x (y ∷ ys) after =
    let rest = after_filter p x ys after.1 in
    elim (p y) as (λ b. IsAfterAll x (cond b (y ∷ filter p ys) (filter p ys))) [ true ↦ (after.0, rest) | false ↦ rest ]

pub falls_filter : (p : Event → Bool) (xs : List Event) → Falls xs → Falls (filter p xs)
falls_filter p [] falls = tt
falls_filter p (x ∷ xs) falls =
    let rest = falls_filter p xs falls.1 in
    elim (p x) as (λ b. Falls (cond b (x ∷ filter p xs) (filter p xs))) [ true ↦ (after_filter p x xs falls.0, rest) | false ↦ rest ]

-- the heads of two such lists with the same events are one, and so are the lists
same_head : (x y : Event) (xs ys : List Event) → Falls (x ∷ xs) → Falls (y ∷ ys) → Has (y ∷ ys) x → Has (x ∷ xs) y → x ≡ y
same_head x y xs ys fx fy (inl is) back = sym is
same_head x y xs ys fx fy (inr h) (inl is) = is
same_head x y xs ys fx fy (inr h) (inr back) = absurd (never_both x y (after_has y ys x fy.0 h) (after_has x xs y fx.0 back))

in_tail : (x y : Event) (xs ys : List Event) (e : Event) → x ≡ y → IsAfterAll x xs → Has xs e → Has (y ∷ ys) e → Has ys e
in_tail x y xs ys e same after h (inr there) = there
in_tail x y xs ys e same after h (inl is) =
    let P : Event → Type 0 = λ f. IsBefore f x in
    let own : IsBefore x x = subst P (sym (same ∙ is)) (after_has x xs e after h) in
    absurd (never_both x x own own)

pub same_falling : (xs ys : List Event) → Falls xs → Falls ys → ((e : Event) → Has xs e → Has ys e) → ((e : Event) → Has ys e → Has xs e) → xs ≡ ys
same_falling [] [] fx fy there back = refl
same_falling [] (y ∷ ys) fx fy there back = absurd (back y (inl refl))
same_falling (x ∷ xs) [] fx fy there back = absurd (there x (inl refl))
same_falling (x ∷ xs) (y ∷ ys) fx fy there back =
    let same : x ≡ y = same_head x y xs ys fx fy (there x (inl refl)) (back y (inl refl)) in
    let rest : xs ≡ ys = same_falling xs ys fx.1 fy.1
    (λ e h. in_tail x y xs ys e same fx.0 h (there e (inr h)))
    (λ e h. in_tail y x ys xs e (sym same) fy.0 h (back e (inr h))) in
    cc

-- two merges of the same histories are one list
has_in_other : (histories : ℕ → List Event) (a b : List Event) → IsMerge histories a → IsMerge histories b → (e : Event) → Has a e → Has b e
has_in_other histories a b of_a of_b e h =
    let P : List Event → Type 0 = λ l. Has l e in
    let same : history e.node.0 a ≡ history e.node.0 b = of_a.parts e.node.0 ∙ sym (of_b.parts e.node.0) in
    (has_from_history e.node.0 b e (subst P same (has_in_history a e h))).0

pub one_merge : (histories : ℕ → List Event) (a b : List Event) → IsMerge histories a → IsMerge histories b → a ≡ b
one_merge histories a b of_a of_b = same_falling a b of_a.falls of_b.falls (has_in_other histories a b of_a of_b) (has_in_other histories b a of_b of_a)

-- a list turned round falls where each event comes before all that stand behind it
after_last : (y x : Event) (ys : List Event) → IsAfterAll y ys → IsBefore x y → IsAfterAll y (ys ++ x ∷ [])
after_last y x [] after before = (before, tt)
after_last y x (z ∷ zs) after before = (after.0, after_last y x zs after.1 before)

pub falls_last : (x : Event) (ys : List Event) → Falls ys → ((y : Event) → Has ys y → IsBefore x y) → Falls (ys ++ x ∷ [])
falls_last x [] falls before = (tt, tt)
falls_last x (y ∷ ys) falls before = (after_last y x ys falls.0 (before y (inl refl)), falls_last x ys falls.1 (λ z h. before z (inr h)))
