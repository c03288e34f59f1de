-- The place of a name among the names of a list, found item by item.
use Rattle.std.proofs.Common.{◌≡◌, ℕ, zero, suc, ◌+◌, ◌<◌, ◌≤◌, inl, inr, Bool, true, false, cond, List, [], ◌∷◌, length, take, map, get_or, slice_get, Option, Some, None, IfSome, is_some, option_map, refl, ap, ◌∙◌, subst, arith, bytes_eq}
use Rattle.std.proofs.lemmas.List.{take-map, length-map}
use Rattle.std.proofs.lemmas.Bool.{cases_lt}
use Rattle.std.proofs.lemmas.Option.{slice_get-map, slice_get_read, slice_get_past}
use Rattle.rl_base.specs.declared.draft.DraftBox.{DraftBox}
use Rattle.rl_base.specs.declared.draft.Draft.{Draft}
use Rattle.rl_drafts.specs.Drafts.{number_in, box_names}
use Rattle.rl_drafts.specs.Refusals.{is_twice}

-- where no name of the list is found, the first one isn't it, and none of the others is
cond_none : (b : Bool) (o : Option ℕ) → cond b (Some 0) (option_map suc o) ≡ None → (b ≡ false) × (o ≡ None)
cond_none true o e = cc
cond_none false None e = (refl, refl)
cond_none false (Some i) e = cc

-- an item that has another name leaves the search going
pub number_in_none : {X : Type 0} (f : X → List ℕ) (xs : List X) (i : ℕ) (x : X) (name : List ℕ) → number_in (map f (take i xs)) name ≡ None → i < length xs
    → x ≡ get_or xs i x → bytes_eq (f x) name ≡ false → number_in (map f (take (suc i) xs)) name ≡ None
number_in_none f [] i x name before lt e differs = absurd (omega arith)
number_in_none f (y ∷ ys) zero x name before lt e differs =
    let same : bytes_eq (f y) name ≡ false = rw (← e) differs in
    rw same refl
number_in_none f (y ∷ ys) (suc i) x name before lt e differs =
    let first = cond_none (bytes_eq (f y) name) (number_in (map f (take i ys)) name) before in
    let next = number_in_none f ys i x name first.1 (omega arith) e differs in
    rw (first.0, next) refl

-- the first item that has the name ends it
pub number_in_found : {X : Type 0} (f : X → List ℕ) (xs : List X) (i : ℕ) (x : X) (name : List ℕ) → number_in (map f (take i xs)) name ≡ None → i < length xs
    → x ≡ get_or xs i x → bytes_eq (f x) name ≡ true → number_in (map f xs) name ≡ Some i
number_in_found f [] i x name before lt e is = absurd (omega arith)
number_in_found f (y ∷ ys) zero x name before lt e is =
    let same : bytes_eq (f y) name ≡ true = rw (← e) is in
    rw same refl
number_in_found f (y ∷ ys) (suc i) x name before lt e is =
    let first = cond_none (bytes_eq (f y) name) (number_in (map f (take i ys)) name) before in
    let next = number_in_found f ys i x name first.1 (omega arith) e is in
    rw (first.0, next) refl

-- whether an earlier item has the name of this one
pub is_twice_at : {X : Type 0} (f : X → List ℕ) (xs : List X) (i : ℕ) (x : X) → i < length xs → x ≡ get_or xs i x
    → is_twice (map f xs) i ≡ is_some (number_in (map f (take i xs)) (f x))
is_twice_at f xs i x lt e =
    let here = slice_get_read xs (length xs) i x refl lt e in
    let there : slice_get (map f xs) i ≡ Some (f x) = slice_get-map f xs i ∙ ap (option_map f) here in
    rw (there, take-map f i xs) refl

-- a number that is found is the place of one of the names
pub number_in_within : (names : List (List ℕ)) (name : List ℕ) → IfSome (number_in names name) (λ i. i < length names)
number_in_within [] name = tt
number_in_within (n ∷ ns) name = step (bytes_eq n name) (number_in ns name) (number_in_within ns name)
  where
    step : (b : Bool) (o : Option ℕ) → IfSome o (λ i. i < length ns) → IfSome (cond b (Some 0) (option_map suc o)) (λ i. i < suc (length ns))
    step true o h = omega arith
    step false None h = tt
    step false (Some i) h = omega arith

pub box_number_within : (d : Draft) (name : List ℕ) → IfSome (number_in (box_names d) name) (λ b. b < length d.boxes)
box_number_within d name =
    subst (λ (m : ℕ). IfSome (number_in (box_names d) name) (λ b. b < m)) (length-map d.boxes (λ (x : DraftBox). x.name)) (number_in_within (box_names d) name)

-- a test that fails below a number and at it
pub below_more : (test : ℕ → Bool) (i : ℕ) → ((j : ℕ) → j < i → test j ≡ false) → test i ≡ false → (j : ℕ) → j < i + 1 → test j ≡ false
below_more test i before here j l =
    elim (cases_lt j i) [ inl less ↦ before j less | inr more ↦ (let e : j ≡ i = omega arith in rw e here) ]

-- no name of the list is that of an earlier one where none at a place within it is
pub unlike_within : (names : List (List ℕ)) (n : ℕ) → length names ≤ n → ((j : ℕ) → j < n → is_twice names j ≡ false) → (i : ℕ) → is_twice names i ≡ false
unlike_within names n all each i =
    elim (cases_lt i n) [ inl less ↦ each i less | inr more ↦ (let past : slice_get names i ≡ None = slice_get_past names i (omega arith) in rw past refl) ]
