-- What a sort by stamp and node makes of the events of all records is their merge.
use Rattle.std.proofs.Common.{◌≡◌, ℕ, suc, ◌+◌, ◌<◌, ◌≤◌, ◌==◌, leb, nat_cmp, is_lt, Bool, true, false, ◌⊎◌, inl, inr, List, [], ◌∷◌, length, reverse, IsPermutation, slice_index_or, sym, ◌∙◌, subst, arith}
use Rattle.std.specs.List.{IsDistinct}
use Rattle.std.specs.Ordering.{ordering_then}
use Rattle.std.proofs.lemmas.Bool.Decides.{nat_tests, leb_tells}
use Rattle.std.proofs.lemmas.Grind.{reverse_onto}
use Rattle.std.proofs.lemmas.List.Sorted.{IsPermutation-sym, Contains-permutation}
use Rattle.std.proofs.lemmas.Map.Keys.{IsDistinct-IsPermutation}
use Rattle.rl_record.specs.declared.event.Event.{Event}
use Rattle.rl_record.specs.Merge.{IsBefore, Falls, history}
use Rattle.rl_record.specs.Records.{Record, all_events, AreHistories, IsMergeOf}
use Rattle.rl_record.proofs.Members.{Has, has_from_contains, contains_from_has, has_from_reverse, has_in_reverse, has_in_history, has_from_history}
use Rattle.rl_record.proofs.Falling.{before_both, falls_filter, falls_last, same_falling}
use Rattle.rl_record.proofs.Rising.{falls_from_up, same_key, same_key-flips, distinct_from_up}
use Rattle.rl_record.proofs.Gathered.{all_up}

-- no event comes before its neighbour
abbrev pub IsInOrder : List Event → Type 0
IsInOrder xs = (k : ℕ) (d : Event) → suc k < length xs → IsBefore (slice_index_or xs (suc k) d) (slice_index_or xs k d) → ⊥

-- as the sort tells it
abbrev pub is_lower : Event → Event → Bool
is_lower a b = is_lt (ordering_then (nat_cmp a.stamp b.stamp) (nat_cmp a.node.0 b.node.0))

lower_before : (a b : Event) → IsBefore a b → is_lower a b ≡ true
lower_before a b (inl less) = grind (arith, nat_tests)
lower_before a b (inr both) = grind (arith, nat_tests)

pub in_order : (xs : List Event)
    → ((k : ℕ) (d : Event) → 0 ≤ k → k + 1 < length xs → is_lower (slice_index_or xs (k + 1) d) (slice_index_or xs k d) ≡ false)
    → IsInOrder xs
in_order xs sorted k d within before =
    let P : ℕ → Type 0 = λ m. is_lower (slice_index_or xs m d) (slice_index_or xs k d) ≡ false in
    let next : k + 1 ≡ suc k = omega arith in
    let not_lower : is_lower (slice_index_or xs (suc k) d) (slice_index_or xs k d) ≡ false = subst P next (sorted k d (omega arith) (omega arith)) in
    let clash : true ≡ false = sym (lower_before (slice_index_or xs (suc k) d) (slice_index_or xs k d) before) ∙ not_lower in
    cc

abbrev Climbs : List Event → Type 0
Climbs [] = Unit {0}
Climbs (x ∷ xs) = ((y : Event) → Has xs y → IsBefore x y) × Climbs xs

alike : (a b : Event) → (IsBefore b a → ⊥) → same_key a b ≡ false → a.stamp ≡ b.stamp → b.node.0 ≤ a.node.0 → ⊥
alike a b not_back other stamp node = grind (arith, nat_tests)

abbrev Told : ℕ → ℕ → Type 0
Told m n = ((leb m n ≡ true) × (m ≤ n)) ⊎ ((leb m n ≡ false) × (n < m))

one_of : (a b : Event) → (IsBefore b a → ⊥) → same_key a b ≡ false
    → Told a.stamp b.stamp → Told b.stamp a.stamp → Told b.node.0 a.node.0 → IsBefore a b
one_of a b not_back other (inr less) back node = absurd (not_back (inl less.1))
one_of a b not_back other (inl to) (inr less) node = inl less.1
one_of a b not_back other (inl to) (inl back) (inr less) = inr (omega arith, less.1)
one_of a b not_back other (inl to) (inl back) (inl node) = absurd (alike a b not_back other (omega arith) node.1)

one_before : (a b : Event) → (IsBefore b a → ⊥) → same_key a b ≡ false → IsBefore a b
one_before a b not_back other = one_of a b not_back other (leb_tells a.stamp b.stamp) (leb_tells b.stamp a.stamp) (leb_tells b.node.0 a.node.0)

rest_in_order : (x : Event) (xs : List Event) → IsInOrder (x ∷ xs) → IsInOrder xs
rest_in_order x xs order k d within back =
    order (suc k) d (omega arith) back

climbs : (xs : List Event) → IsInOrder xs → IsDistinct same_key xs → Climbs xs
unfolding IsDistinct
climbs [] order distinct = tt
climbs (x ∷ []) order distinct = (λ y h. absurd h, tt)
climbs (x ∷ y ∷ ys) order distinct =
    let rest = climbs (y ∷ ys) (rest_in_order x (y ∷ ys) order) distinct.1 in
    let first : IsBefore x y = one_before x y (order 0 x (omega arith)) distinct.0.0 in (
      λ z h. elim h [
        | inl is ↦ (let P : Event → Type 0 = λ e. IsBefore x e in subst P is first)
        | inr there ↦ before_both x y z first (rest.0 z there)
      ],
      rest,
    )

falls_from_climbs : (xs : List Event) → Climbs xs → Falls (reverse xs)
falls_from_climbs [] up = tt
falls_from_climbs (x ∷ xs) up =
    subst Falls (sym (reverse_onto xs x [])) (falls_last x (reverse xs) (falls_from_climbs xs up.1) (λ y h. up.0 y (has_from_reverse xs y h)))

same_members : (xs ys : List Event) → IsPermutation xs ys → (e : Event) → Has xs e → Has ys e
same_members xs ys moved e h = has_from_contains ys e (Contains-permutation xs ys e moved (contains_from_has xs e h))

into_history : (n : ℕ) (xs : List Event) (e : Event) → Has xs e → e.node.0 ≡ n → Has (history n xs) e
into_history n xs e h is = let P : ℕ → Type 0 = λ m. Has (history m xs) e in subst P is (has_in_history xs e h)

out_of_sorted : (n : ℕ) (all sorted : List Event) → IsPermutation all sorted
    → (e : Event) → Has (history n (reverse sorted)) e → Has (reverse (history n all)) e
out_of_sorted n all sorted moved e h =
    let found = has_from_history n (reverse sorted) e h in
    let there = same_members sorted all (IsPermutation-sym all sorted moved) e (has_from_reverse sorted e found.0) in
    has_in_reverse (history n all) e (into_history n all e there found.1)

into_sorted : (n : ℕ) (all sorted : List Event) → IsPermutation all sorted
    → (e : Event) → Has (reverse (history n all)) e → Has (history n (reverse sorted)) e
into_sorted n all sorted moved e h =
    let found = has_from_history n all e (has_from_reverse (history n all) e h) in
    into_history n (reverse sorted) e (has_in_reverse sorted e (same_members all sorted moved e found.0)) found.1

pub sorted_merge : (records : List Record) (sorted : List Event) → AreHistories records
    → IsPermutation (all_events records) sorted → IsInOrder sorted → IsMergeOf records sorted
sorted_merge records sorted are moved order =
    let all = all_events records in
    let up = all_up records are in
    let distinct = IsDistinct-IsPermutation same_key same_key-flips all sorted moved (distinct_from_up all up) in
    let falls : Falls (reverse sorted) = falls_from_climbs sorted (climbs sorted order distinct) in
    record {
      falls = falls;
      parts = λ n.
          same_falling (history n (reverse sorted)) (reverse (history n all))
          (falls_filter (λ e. e.node.0 == n) (reverse sorted) falls) (falls_from_up (history n all) (up n))
          (out_of_sorted n all sorted moved) (into_sorted n all sorted moved);
    }
