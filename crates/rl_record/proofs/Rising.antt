-- Histories, oldest first: their stamps rise. So no two events of all of them have one stamp and one node.
use Rattle.std.proofs.Common.{◌≡◌, ℕ, suc, ◌<◌, ◌==◌, ◌&&◌, Bool, true, false, cond, inl, inr, List, [], ◌∷◌, reverse, filter, refl, sym, subst, arith}
use Rattle.std.specs.List.{AllByRecursion, IsDistinct}
use Rattle.std.proofs.lemmas.Bool.Decides.{nat_tests}
use Rattle.std.proofs.lemmas.Grind.{reverse_onto}
use Rattle.rl_record.specs.declared.event.Event.{Event}
use Rattle.rl_record.specs.Merge.{Falls, history}
use Rattle.rl_record.specs.Records.{Rises}
use Rattle.rl_record.proofs.Members.{Has, contains_from_has, has_from_reverse, has_in_history, has_from_filter, own_node}
use Rattle.rl_record.proofs.Falling.{falls_last}

abbrev pub Up : List Event → Type 0
Up [] = Unit {0}
Up (x ∷ xs) = ((y : Event) → Has xs y → x.stamp < y.stamp) × Up xs

pub up_from_rises : (xs : List Event) → Rises xs → Up xs
up_from_rises [] rises = tt
up_from_rises (x ∷ xs) rises = (
  λ y h.
      let at = contains_from_has xs y h in
      let P : Event → Type 0 = λ e. x.stamp < e.stamp in
      subst P at.2 (rises 0 (suc at.0) y (omega arith) (omega (arith, at.1))),
  up_from_rises xs (λ i j d low high. rises (suc i) (suc j) d (omega (arith, low)) (omega (arith, high))),
)

pub up_filter : (p : Event → Bool) (xs : List Event) → Up xs → Up (filter p xs)
up_filter p [] up = tt
up_filter p (x ∷ xs) up =
    let rest = up_filter p xs up.1 in
    elim (p x) as (λ b. Up (cond b (x ∷ filter p xs) (filter p xs))) [ true ↦ (λ y h. up.0 y (has_from_filter p xs y h).0, rest) | false ↦ rest ]

pub falls_from_up : (xs : List Event) → Up xs → Falls (reverse xs)
falls_from_up [] up = tt
falls_from_up (x ∷ xs) up =
    subst Falls (sym (reverse_onto xs x [])) (falls_last x (reverse xs) (falls_from_up xs up.1) (λ y h. inl (up.0 y (has_from_reverse xs y h))))

-- two events with one stamp and one node
abbrev pub same_key : Event → Event → Bool
same_key a b = (a.stamp == b.stamp) && (a.node.0 == b.node.0)

pub same_key-flips : (a b : Event) → same_key a b ≡ same_key b a
same_key-flips a b = grind (arith, nat_tests)

pub each_by_recursion : (P : Event → Type 0) (xs : List Event) → ((e : Event) → Has xs e → P e) → AllByRecursion P xs
each_by_recursion P [] each = tt
each_by_recursion P (x ∷ xs) each = (each x (inl refl), each_by_recursion P xs (λ e h. each e (inr h)))

other_key : (x y : Event) (xs : List Event) → ((z : Event) → Has (history x.node.0 xs) z → x.stamp < z.stamp)
    → Has xs y → (b : Bool) → same_key x y ≡ b → b ≡ false
other_key x y xs up h false is = refl
other_key x y xs up h true is =
    let node : y.node.0 ≡ x.node.0 = grind (arith, nat_tests) in
    let stamp : y.stamp ≡ x.stamp = grind (arith, nat_tests) in
    let P : ℕ → Type 0 = λ n. Has (history n xs) y in
    let more : x.stamp < y.stamp = up y (subst P node (has_in_history xs y h)) in
    absurd (omega arith)

rest_up : (x : Event) (xs : List Event) (b : Bool) → Up (cond b (x ∷ xs) xs) → Up xs
rest_up x xs true up = up.1
rest_up x xs false up = up

pub distinct_from_up : (xs : List Event) → ((n : ℕ) → Up (history n xs)) → IsDistinct same_key xs
unfolding IsDistinct
distinct_from_up [] up = tt
distinct_from_up (x ∷ xs) up =
    let P : Bool → Type 0 = λ b. Up (cond b (x ∷ history x.node.0 xs) (history x.node.0 xs)) in
    let own = subst P (own_node x) (up x.node.0) in (
      each_by_recursion (λ y. same_key x y ≡ false) xs (λ y h. other_key x y xs own.0 h (same_key x y) refl),
      distinct_from_up xs (λ n. rest_up x (history n xs) (x.node.0 == n) (up n)),
    )
