-- What a look-up by name finds is the first thing of that name, where names differ.
use Rattle.std.proofs.Common.{◌≡◌, ◌≢◌, ℕ, ◌<◌, ◌≤◌, Bool, true, false, not, ltb, List, [], length, slice_get, get_or, Option, Some, None, option_map, IfSome, IfNone, bytes_eq, refl, sym, ap, ◌∙◌, inl, inr, arith}
use Rattle.std.specs.Option.{option_map_or}
use Rattle.std.specs.List.{position, position_or_len}
use Rattle.std.proofs.lemmas.Bool.{false≢true, cases_lt, lt-ltb, le-ltb, not-false}
use Rattle.std.proofs.lemmas.List.Sums.{fails_before_first, prefix_len_stops}
use Rattle.std.proofs.lemmas.Option.{slice_get_cases, slice_get-get_or, slice_get_within, get_or_from_slice_get}
use Rattle.std.proofs.lemmas.Slice.Eq.{bytes_eq-Decides}

abbrev pub is_named : {X : Type 0} → (X → List ℕ) → List ℕ → X → Bool
is_named name word x = bytes_eq (name x) word

-- no two things have one name
abbrev pub Differ : {X : Type 0} → (X → List ℕ) → List X → Type 0
Differ {X} name xs = (i j : ℕ) (x y : X) → slice_get xs i ≡ Some x → slice_get xs j ≡ Some y → name x ≡ name y → i ≡ j

-- the thing at the first place has the name
first_named : {X : Type 0} (name : X → List ℕ) (word : List ℕ) (xs : List X) (d : X) → position_or_len (is_named name word) xs < length xs
    → name (get_or xs (position_or_len (is_named name word) xs) d) ≡ word
first_named name word xs d within =
    let at = position_or_len (is_named name word) xs in
    let passes : is_named name word (get_or xs at d) ≡ true =
    not-false (is_named name word (get_or xs at d)) (prefix_len_stops (λ x. not (is_named name word x)) xs d within) in
    (bytes_eq-Decides (name (get_or xs at d)) word).0 passes

-- a thing of the name stands at the first place or after it
first_no_later : {X : Type 0} (name : X → List ℕ) (word : List ℕ) (xs : List X) (i : ℕ) (x : X) → slice_get xs i ≡ Some x → name x ≡ word
    → position_or_len (is_named name word) xs ≤ i
first_no_later name word xs i x at named =
    elim (cases_lt i (position_or_len (is_named name word) xs)) [
      | inl before ↦
          let fails : is_named name word (get_or xs i x) ≡ false = fails_before_first (is_named name word) xs i x before in
          let passes : is_named name word x ≡ true = (bytes_eq-Decides (name x) word).1 named in
          absurd (false≢true (sym fails ∙ ap (is_named name word) (get_or_from_slice_get xs i x x at) ∙ passes))
      | inr after ↦ after
    ]

position_at : {X : Type 0} (p : X → Bool) (xs : List X) (i : ℕ) → position_or_len p xs ≡ i → i < length xs → position p xs ≡ Some i
position_at p xs i is within = let yes : ltb (position_or_len p xs) (length xs) ≡ true = lt-ltb (position_or_len p xs) (length xs) (rw is within) in
    rw (yes, is) refl

pub named_position : {X : Type 0} (name : X → List ℕ) (word : List ℕ) (xs : List X) (i : ℕ) (x : X) → Differ name xs → slice_get xs i ≡ Some x → name x ≡ word
    → position (is_named name word) xs ≡ Some i
named_position name word xs i x differ at named =
    let within : i < length xs = slice_get_within xs i x at in
    let first = position_or_len (is_named name word) xs in
    let early : first ≤ i = first_no_later name word xs i x at named in
    let there : first < length xs = omega arith in
    let same : first ≡ i = differ first i (get_or xs first x) x (slice_get-get_or xs first x there) at (first_named name word xs x there ∙ sym named) in
    position_at (is_named name word) xs i same within

pub unnamed_position : {X : Type 0} (name : X → List ℕ) (word : List ℕ) (xs : List X) → ((i : ℕ) (x : X) → slice_get xs i ≡ Some x → name x ≢ word)
    → position (is_named name word) xs ≡ None
unnamed_position name word xs none =
    let first = position_or_len (is_named name word) xs in
    elim (cases_lt first (length xs)) [
      | inl within ↦
          elim (slice_get_cases xs first).1 [
            | inl x ↦ absurd (none first x.0 x.2 (ap name (sym x.3) ∙ first_named name word xs x.0 within))
            | inr past ↦ absurd (omega (arith, past.0))
          ]
      | inr past ↦ let no : ltb first (length xs) ≡ false = le-ltb first (length xs) past in rw no refl
    ]

-- the answer of a look-up is that place
looked_up : {X : Type 0} (name : X → List ℕ) (word : List ℕ) (xs : List X) (o : Option ℕ) → Differ name xs
    → ((i : ℕ) → o ≡ Some i → (i < length xs) × (option_map_or name (slice_get xs i) [] ≡ word))
    → (o ≡ None → (i : ℕ) → i < length xs → option_map_or name (slice_get xs i) [] ≢ word) → o ≡ position (is_named name word) xs
looked_up name word xs (Some i) differ some none =
    let there = some i refl in
    elim (slice_get_cases xs i).1 [
      | inl x ↦ sym (named_position name word xs i x.0 differ x.2 (sym (ap (λ o. option_map_or name o []) x.2) ∙ there.1))
      | inr past ↦ absurd (omega (arith, past.0, there.0))
    ]
looked_up name word xs None differ some none =
    sym (unnamed_position name word xs (λ i x at is. none refl i (slice_get_within xs i x at) (ap (λ o. option_map_or name o []) at ∙ is)))

-- what a look-up promises, of the number that it gives
some_found : {X Id : Type 0} (number : Id → ℕ) (name : X → List ℕ) (word : List ℕ) (xs : List X) (o : Option Id)
    → IfSome o (λ id. (number id < length xs) × (option_map_or name (slice_get xs (number id)) [] ≡ word)) → (i : ℕ) → option_map number o ≡ Some i
    → (i < length xs) × (option_map_or name (slice_get xs i) [] ≡ word)
some_found number name word xs (Some id) found i is = let same : number id ≡ i = cc in rw (← same) found
some_found number name word xs None found i is = absurd (cc)

none_found : {X Id : Type 0} (number : Id → ℕ) (name : X → List ℕ) (word : List ℕ) (xs : List X) (o : Option Id)
    → IfNone o ((i : ℕ) → i < length xs → option_map_or name (slice_get xs i) [] ≢ word) → option_map number o ≡ None → (i : ℕ) → i < length xs
    → option_map_or name (slice_get xs i) [] ≢ word
none_found number name word xs None nowhere is = nowhere
none_found number name word xs (Some id) nowhere is = absurd (cc)

pub found_at : {X Id : Type 0} (number : Id → ℕ) (name : X → List ℕ) (word : List ℕ) (xs : List X) (o : Option Id) → Differ name xs
    → IfSome o (λ id. (number id < length xs) × (option_map_or name (slice_get xs (number id)) [] ≡ word))
    → IfNone o ((i : ℕ) → i < length xs → option_map_or name (slice_get xs i) [] ≢ word) → option_map number o ≡ position (is_named name word) xs
found_at number name word xs o differ some none =
    looked_up name word xs (option_map number o) differ (some_found number name word xs o some) (none_found number name word xs o none)
