-- A route of the ring goes from segment to segment, through boxes that connect them.
use Rattle.std.proofs.Common.{◌≡◌, ℕ, zero, suc, ◌+◌, ◌-◌, ◌*◌, ◌%◌, ◌<◌, ◌^◌, Bool, true, false, not, cond, eqb, ltb, ◌&&◌, List, [], ◌∷◌, length, Some, refl}
use Rattle.std.proofs.Common.{arith}
use Rattle.std.proofs.lemmas.Bool.Decides.{nat_tests}
use Rattle.std.specs.Option.{option_map_or}
use Rattle.rl_base.specs.declared.draft.Draft.{Draft}
use Rattle.rl_drafts.specs.Drafts.{box_names}
use Rattle.rl_drafts.specs.Refusals.{on_name, is_among, box_named, connects_names, fits_at}
use Rattle.rl_make.specs.Ring.{upper, lower, middle, line, entry, exit, joint, station_after, segments_of, point_box, platform, legs, train_of, each, ring}
use Rattle.rl_make.proofs.EndsOf.{after_within, before_after}
use Rattle.rl_make.proofs.Found.{upper_is, lower_is, middle_is, line_is, entry_is, exit_is, joint_is, entry_found, exit_found, joint_found}
use Rattle.rl_make.proofs.Names.{same}

-- its length
length-legs : (n i k h : ℕ) → length (legs n i k h) ≡ 6 * k
unfolding legs
length-legs n i zero h = refl
length-legs n i (suc k) h = omega (arith, length-legs n i k (station_after n h))

pub length-route : (n i : ℕ) → length (train_of n i).route ≡ 121
length-route n i = omega (arith, length-legs n i 20 i)

-- names that are in turn those of one list and those of another
abbrev Alternates : List (List ℕ) → List (List ℕ) → List (List ℕ) → Type 0
Alternates evens odds [] = Unit {0}
Alternates evens odds (x ∷ xs) = (is_among evens x ≡ true) × Alternates odds evens xs

turn : (j : ℕ) → eqb (suc j % 2) 0 ≡ not (eqb (j % 2) 0)
turn j = by_rest (eqb (j % 2) 0) refl
  where
    by_rest : (b : Bool) → eqb (j % 2) 0 ≡ b → eqb (suc j % 2) 0 ≡ not b
    by_rest true e = grind (arith, nat_tests)
    by_rest false e = grind (arith, nat_tests)

swapped : {A : Type 0} (b : Bool) (x y : A) → cond (not b) x y ≡ cond b y x
swapped true x y = refl
swapped false x y = refl

alternates_at : (evens odds xs : List (List ℕ)) → Alternates evens odds xs → (j : ℕ)
    → on_name xs j (λ name. not (is_among (cond (eqb (j % 2) 0) evens odds) name)) ≡ false
alternates_at evens odds [] h j = refl
alternates_at evens odds (x ∷ xs) h zero = rw h.0
alternates_at evens odds (x ∷ xs) h (suc j) =
    rw (turn j, swapped (eqb (j % 2) 0) evens odds) (alternates_at odds evens xs h.1 j)

platform_is : (n i h : ℕ) → h < n → is_among (each segments_of n) (platform i h) ≡ true
platform_is n i h l = at (eqb (i % 2) 0)
  where
    at : (b : Bool) → is_among (each segments_of n) (cond b (upper h) (lower h)) ≡ true
    at true = upper_is n h l
    at false = lower_is n h l

legs_alternate : (n i k h : ℕ) → h < n → Alternates (box_names (ring n)) (each segments_of n) (legs n i k h)
unfolding legs
legs_alternate n i zero h l = tt
legs_alternate n i (suc k) h l =
    let m = after_within n h l in (
      exit_is n h l,
      (
        middle_is n h l,
        (
          joint_is n h l,
          (line_is n h l, (entry_is n (station_after n h) m, (platform_is n i (station_after n h) m, legs_alternate n i k (station_after n h) m))),
        ),
      ),
    )

pub route_named : (n i j : ℕ) → i < n
    → on_name (train_of n i).route j (λ name. not (is_among (cond (eqb (j % 2) 0) (each segments_of n) (box_names (ring n))) name)) ≡ false
route_named n i j l =
    alternates_at (each segments_of n) (box_names (ring n)) (train_of n i).route (platform_is n i i l, legs_alternate n i 20 i l) j

-- the box of that name connects the two segments
abbrev fits : Draft → List ℕ → List ℕ → List ℕ → Bool
fits d from box to = option_map_or (λ x. connects_names x (Some from) (Some to)) (box_named d box) false

-- from this segment on, each box of the names connects those beside it
abbrev AllFit : Draft → List ℕ → List (List ℕ) → Type 0
AllFit d from [] = Unit {0}
AllFit d from (box ∷ []) = ⊥
AllFit d from (box ∷ to ∷ names) = (fits d from box to ≡ true) × AllFit d to names

-- an odd place that doesn't fit
abbrev pub misfits : Draft → List (List ℕ) → ℕ → Bool
misfits d route j = eqb (j % 2) 1 && ltb j (length route) && not (fits_at d route j)

fits_at-later : (d : Draft) (a b : List ℕ) (xs : List (List ℕ)) (j : ℕ) → fits_at d (a ∷ b ∷ xs) (suc (suc (suc j))) ≡ fits_at d xs (suc j)
fits_at-later d a b xs j =
    let e : suc (suc (suc j)) - 1 ≡ suc (suc j) = omega arith in
    let f : suc (suc (suc j)) + 1 ≡ suc (suc (suc (suc j))) = omega arith in
    let g : suc j - 1 ≡ j = omega arith in
    let k : suc j + 1 ≡ suc (suc j) = omega arith in
    rw (e, f, g, k)

fitting : (a b c : Bool) → c ≡ true → a && b && not c ≡ false
fitting true true c e = rw e
fitting true false c e = refl
fitting false b c e = refl

same_misfit : (a a' b b' c c' : Bool) → a ≡ a' → b ≡ b' → c ≡ c' → a' && b' && not c' ≡ false → a && b && not c ≡ false
same_misfit a a' b b' c c' e f g h = rw (e, f, g) h

two_later : (j : ℕ) → eqb (suc (suc j) % 2) 1 ≡ eqb (j % 2) 1
two_later j = by_rest (eqb (j % 2) 1) refl
  where
    by_rest : (b : Bool) → eqb (j % 2) 1 ≡ b → eqb (suc (suc j) % 2) 1 ≡ b
    by_rest true e = grind (arith, nat_tests)
    by_rest false e = grind (arith, nat_tests)

both_later : (a b : ℕ) → ltb (suc (suc a)) (suc (suc b)) ≡ ltb a b
both_later a b = by_rest (ltb a b) refl
  where
    by_rest : (t : Bool) → ltb a b ≡ t → ltb (suc (suc a)) (suc (suc b)) ≡ t
    by_rest true e = grind (arith, nat_tests)
    by_rest false e = grind (arith, nat_tests)

all_fit_at : (d : Draft) (from : List ℕ) (names : List (List ℕ)) → AllFit d from names → (j : ℕ) → misfits d (from ∷ names) j ≡ false
all_fit_at d from [] h zero = refl
all_fit_at d from [] h (suc j) =
    let long : ltb (suc j) 1 ≡ false = grind (arith, nat_tests) in
    at (eqb (suc j % 2) 1) (ltb (suc j) 1) (fits_at d (from ∷ []) (suc j)) long
  where
    at : (a b c : Bool) → b ≡ false → a && b && not c ≡ false
    at true b c e = rw e
    at false b c e = refl
all_fit_at d from (box ∷ []) h j = absurd h
all_fit_at d from (box ∷ to ∷ names) h zero = refl
all_fit_at d from (box ∷ to ∷ names) h (suc zero) = fitting (eqb (1 % 2) 1) (ltb 1 (length (from ∷ box ∷ to ∷ names))) (fits d from box to) h.0
all_fit_at d from (box ∷ to ∷ names) h (suc (suc zero)) = refl
all_fit_at d from (box ∷ to ∷ names) h (suc (suc (suc j))) =
    same_misfit (eqb (suc (suc (suc j)) % 2) 1) (eqb (suc j % 2) 1) (ltb (suc (suc (suc j))) (length (from ∷ box ∷ to ∷ names)))
    (ltb (suc j) (length (to ∷ names)))
    (fits_at d (from ∷ box ∷ to ∷ names) (suc (suc (suc j)))) (fits_at d (to ∷ names) (suc j)) (two_later (suc j)) (both_later (suc j) (length (to ∷ names)))
    (fits_at-later d from box (to ∷ names) j)
    (all_fit_at d to names h.1 (suc j))

-- the three ways of a leg
exit_fits : (n i h : ℕ) → h < n → h < 2 ^ 64 → fits (ring n) (platform i h) (exit h) (middle h) ≡ true
exit_fits n i h l small = rw (exit_found n h l small) (at (eqb (i % 2) 0))
  where
    at : (b : Bool) → connects_names (point_box (exit h) (middle h) (upper h) (lower h)) (Some (cond b (upper h) (lower h))) (Some (middle h)) ≡ true
    at true = rw (same h)
    at false = rw (same h)

joint_fits : (n h : ℕ) → h < n → h < 2 ^ 64 → fits (ring n) (middle h) (joint h) (line h) ≡ true
joint_fits n h l small = rw (joint_found n h l small, same h)

entry_fits : (n i h : ℕ) → h < n → n < 2 ^ 64 → fits (ring n) (line h) (entry (station_after n h)) (platform i (station_after n h)) ≡ true
entry_fits n i h l small =
    let m = after_within n h l in
    rw (entry_found n (station_after n h) m (omega (arith, m, small)), before_after n h l) (at (station_after n h) (eqb (i % 2) 0))
  where
    at : (g : ℕ) (b : Bool) → connects_names (point_box (entry g) (line h) (upper g) (lower g)) (Some (line h)) (Some (cond b (upper g) (lower g))) ≡ true
    at g true = rw (same h, same g)
    at g false = rw (same h, same g)

legs_fit : (n i k h : ℕ) → h < n → n < 2 ^ 64 → AllFit (ring n) (platform i h) (legs n i k h)
unfolding legs
legs_fit n i zero h l small = tt
legs_fit n i (suc k) h l small = (
  exit_fits n i h l (omega (arith, l, small)),
  (joint_fits n h l (omega (arith, l, small)), (entry_fits n i h l small, legs_fit n i k (station_after n h) (after_within n h l) small)),
)

pub route_fits : (n i j : ℕ) → i < n → n < 2 ^ 64 → misfits (ring n) (train_of n i).route j ≡ false
route_fits n i j l small = all_fit_at (ring n) (platform i i) (legs n i 20 i) (legs_fit n i 20 i l small) j
