-- The first place that a search finds, worked out place by place.
use Rattle.std.proofs.Common.{◌≡◌, ℕ, zero, suc, ◌<◌, ◌≤◌, Bool, true, false, cond, Option, Some, None, ⊎_elim, refl, subst, arith}
use Rattle.std.proofs.lemmas.Bool.{cases_lt}
use Rattle.std.specs.Option.{option_or}
use Rattle.rl_base.specs.declared.place.Place.{Place}
use Rattle.rl_drafts.specs.Search.{first_below}

-- the place, if the test passes there
abbrev pub tried : (ℕ → Bool) → (ℕ → Place) → ℕ → Option Place
tried test at i = cond (test i) (Some (at i)) None

-- a place where nothing is found leaves the search going
pub first_below_none : (f : ℕ → Option Place) (i : ℕ) → first_below f i ≡ None → f i ≡ None → first_below f (suc i) ≡ None
first_below_none f i before here = rw (before, here) refl

-- the first place where something is found ends it
pub first_below_found : (f : ℕ → Option Place) (i n : ℕ) (p : Place) → first_below f i ≡ None → f i ≡ Some p → i < n → first_below f n ≡ Some p
first_below_found f i zero p before here lt = absurd (omega arith)
first_below_found f i (suc n) p before here lt =
    ⊎_elim
    (λ (l : i < n). rw (first_below_found f i n p before here l) refl)
    (λ (l : n ≤ i).
    let e : i ≡ n = omega arith in
    let no : first_below f n ≡ None = subst (λ (m : ℕ). first_below f m ≡ None) e before in
    let yes : f n ≡ Some p = subst (λ (m : ℕ). f m ≡ Some p) e here in
    rw (no, yes) refl)
    (cases_lt i n)

-- the same for a search by a test
pub tried_none : (test : ℕ → Bool) (at : ℕ → Place) (i : ℕ) → first_below (tried test at) i ≡ None → test i ≡ false → first_below (tried test at) (suc i) ≡ None
tried_none test at i before here =
    let none : tried test at i ≡ None = rw here refl in
    first_below_none (tried test at) i before none

pub tried_found : (test : ℕ → Bool) (at : ℕ → Place) (i n : ℕ) → first_below (tried test at) i ≡ None → test i ≡ true → i < n
    → first_below (tried test at) n ≡ Some (at i)
tried_found test at i n before here lt =
    let some : tried test at i ≡ Some (at i) = rw here refl in
    first_below_found (tried test at) i n (at i) before some lt

-- where a search finds nothing, nothing is there
pub none_below : (f : ℕ → Option Place) (n i : ℕ) → first_below f n ≡ None → i < n → f i ≡ None
none_below f zero i e lt = absurd (omega arith)
none_below f (suc n) i e lt =
    let parts = both_none (first_below f n) (f n) e in
    ⊎_elim (λ (l : i < n). none_below f n i parts.0 l) (λ (l : n ≤ i). let same : n ≡ i = omega arith in
    subst (λ (m : ℕ). f m ≡ None) same parts.1) (cases_lt i n)
  where
    both_none : (o u : Option Place) → option_or o u ≡ None → (o ≡ None) × (u ≡ None)
    both_none None u h = (refl, h)
    both_none (Some p) u h = cc

pub none_tried : (test : ℕ → Bool) (at : ℕ → Place) (i : ℕ) → tried test at i ≡ None → test i ≡ false
none_tried test at i e = split (test i) e
  where
    split : (b : Bool) → cond b (Some (at i)) None ≡ None → b ≡ false
    split true h = cc
    split false h = refl

-- a search whose test fails everywhere below a number finds nothing
pub nowhere : (test : ℕ → Bool) (at : ℕ → Place) (n : ℕ) → ((j : ℕ) → j < n → test j ≡ false) → first_below (tried test at) n ≡ None
nowhere test at zero h = refl
nowhere test at (suc n) h =
    let here : tried test at n ≡ None = rw (h n (omega arith)) refl in
    first_below_none (tried test at) n (nowhere test at n (λ j l. h j (omega arith))) here
