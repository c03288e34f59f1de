-- Each segment has two ends.
use Rattle.std.proofs.Common.{◌≡◌, ℕ, zero, suc, ◌+◌, ◌-◌, ◌<◌, ◌≤◌, Bool, true, false, cond, eqb, List, [], ◌∷◌, ◌++◌, length, length-append, bytes_eq, refl}
use Rattle.std.proofs.Common.{◌∙◌, arith}
use Rattle.std.proofs.lemmas.Bool.Decides.{nat_tests}
use Rattle.rl_base.specs.declared.draft.DraftBox.{DraftBox}
use Rattle.rl_drafts.specs.Drafts.{end_at, ends_in_box, ends_from, ends_of}
use Rattle.rl_make.specs.Ring.{upper, lower, middle, line, station_before, station_after, boxes_of, each, ring}
use Rattle.rl_make.proofs.Names.{same_number}

-- how many of the arms have the name, and how many arms of the boxes do
abbrev hits : List ℕ → List (List ℕ) → ℕ
hits name [] = 0
hits name (arm ∷ arms) = cond (bytes_eq arm name) 1 0 + hits name arms

abbrev box_hits : List ℕ → List DraftBox → ℕ
box_hits name [] = 0
box_hits name (x ∷ xs) = hits name x.arms + box_hits name xs

length-ends_in_box : (b i : ℕ) (arms : List (List ℕ)) (name : List ℕ) → length (ends_in_box b i arms name) ≡ hits name arms
length-ends_in_box b i [] name = refl
length-ends_in_box b i (arm ∷ arms) name = at (bytes_eq arm name) (length-ends_in_box b (suc i) arms name)
  where
    at : (t : Bool) → length (ends_in_box b (suc i) arms name) ≡ hits name arms
        → length (cond t (end_at b i ∷ ends_in_box b (suc i) arms name) (ends_in_box b (suc i) arms name)) ≡ cond t 1 0 + hits name arms
    at true h = omega (arith, h)
    at false h = omega (arith, h)

length-ends_from : (b : ℕ) (xs : List DraftBox) (name : List ℕ) → length (ends_from b xs name) ≡ box_hits name xs
length-ends_from b [] name = refl
length-ends_from b (x ∷ xs) name =
    length-append (ends_in_box b 0 x.arms name) (ends_from (suc b) xs name)
    ∙ omega (arith, length-ends_in_box b 0 x.arms name, length-ends_from (suc b) xs name)

box_hits-append : (name : List ℕ) (xs ys : List DraftBox) → box_hits name (xs ++ ys) ≡ box_hits name xs + box_hits name ys
box_hits-append name [] ys = omega arith
box_hits-append name (x ∷ xs) ys = omega (arith, box_hits-append name xs ys)

-- the sum of t over the numbers below n
abbrev total : (ℕ → ℕ) → ℕ → ℕ
total t zero = 0
total t (suc n) = total t n + t n

box_hits-each : (name : List ℕ) (f : ℕ → List DraftBox) (n : ℕ) → box_hits name (each f n) ≡ total (λ i. box_hits name (f i)) n
box_hits-each name f zero = refl
box_hits-each name f (suc n) = box_hits-append name (each f n) (f n) ∙ omega (arith, box_hits-each name f n)

total-same : (s t : ℕ → ℕ) (n : ℕ) → ((i : ℕ) → i < n → s i ≡ t i) → total s n ≡ total t n
total-same s t zero h = refl
total-same s t (suc n) h = omega (arith, total-same s t n (λ i l. h i (omega arith)), h n (omega arith))

total-plus : (s t : ℕ → ℕ) (n : ℕ) → total (λ i. s i + t i) n ≡ total s n + total t n
total-plus s t zero = omega arith
total-plus s t (suc n) = omega (arith, total-plus s t n)

-- 1 at one number, and 0 at the others
abbrev one_at : ℕ → ℕ → ℕ
one_at k i = cond (eqb i k) 1 0

total-none : (k n : ℕ) → n ≤ k → total (one_at k) n ≡ 0
total-none k zero l = refl
total-none k (suc n) l =
    let here : eqb n k ≡ false = grind (arith, nat_tests) in
    rw here (omega (arith, total-none k n (omega arith)))

total-one : (k n : ℕ) → k < n → total (one_at k) n ≡ 1
total-one k zero l = absurd (omega (arith, l))
total-one k (suc n) l = at (total-one k n) (eqb n k) refl
  where
    at : (k < n → total (one_at k) n ≡ 1) → (b : Bool) → eqb n k ≡ b → total (one_at k) n + cond b 1 0 ≡ 1
    at rest true e = let same : n ≡ k = grind (arith, nat_tests) in omega (arith, total-none k n (omega arith))
    at rest false e = let below : k < n = grind (arith, nat_tests) in omega (arith, rest below)

-- two ends, one for each of two numbers
two_ends : (n j k : ℕ) (name : List ℕ) → j < n → k < n → ((h : ℕ) → h < n → box_hits name (boxes_of n h) ≡ one_at j h + one_at k h)
    → length (ends_of (ring n) name) ≡ 2
two_ends n j k name l m each_has =
    length-ends_from 0 (each (boxes_of n) n) name ∙ box_hits-each name (boxes_of n) n
    ∙ total-same (λ h. box_hits name (boxes_of n h)) (λ h. one_at j h + one_at k h) n each_has
    ∙ total-plus (one_at j) (one_at k) n
    ∙ omega (arith, total-one j n l, total-one k n m)

pub after_within : (n i : ℕ) → i < n → station_after n i < n
after_within n i l = at (eqb (i + 1) n) refl
  where
    at : (b : Bool) → eqb (i + 1) n ≡ b → cond b 0 (i + 1) < n
    at true e = omega arith
    at false e = grind (arith, nat_tests)

-- h is after i where i is before h
before_is : (n i h : ℕ) → i < n → h < n → eqb (station_before n h) i ≡ eqb h (station_after n i)
before_is n i h l m = at (eqb h 0) refl (eqb (i + 1) n) refl
  where
    at : (b : Bool) → eqb h 0 ≡ b → (c : Bool) → eqb (i + 1) n ≡ c → eqb (cond b (n - 1) (h - 1)) i ≡ eqb h (cond c 0 (i + 1))
    at true e true f = grind (arith, nat_tests)
    at true e false f = grind (arith, nat_tests)
    at false e true f = grind (arith, nat_tests)
    at false e false f = grind (arith, nat_tests)

pub before_within : (n h : ℕ) → h < n → station_before n h < n
before_within n h l = at (eqb h 0) refl
  where
    at : (b : Bool) → eqb h 0 ≡ b → cond b (n - 1) (h - 1) < n
    at true e = omega arith
    at false e = omega arith

-- before what is after h is h
pub before_after : (n h : ℕ) → h < n → station_before n (station_after n h) ≡ h
before_after n h l = at (eqb (h + 1) n) refl
  where
    at : (b : Bool) → eqb (h + 1) n ≡ b → station_before n (cond b 0 (h + 1)) ≡ h
    at true e = grind (arith, nat_tests)
    at false e = let later : eqb (h + 1) 0 ≡ false = grind (arith, nat_tests) in rw later (omega arith)

pub upper_ends : (n i : ℕ) → n ≤ 32 → i < n → length (ends_of (ring n) (upper i)) ≡ 2
upper_ends n i few l =
    two_ends n i i (upper i) l l (λ h m. rw (same_number h i (omega arith) (omega arith)) (omega arith))

pub lower_ends : (n i : ℕ) → n ≤ 32 → i < n → length (ends_of (ring n) (lower i)) ≡ 2
lower_ends n i few l =
    two_ends n i i (lower i) l l (λ h m. rw (same_number h i (omega arith) (omega arith)) (omega arith))

pub middle_ends : (n i : ℕ) → n ≤ 32 → i < n → length (ends_of (ring n) (middle i)) ≡ 2
middle_ends n i few l =
    two_ends n i i (middle i) l l (λ h m. rw (same_number h i (omega arith) (omega arith)) (omega arith))

pub line_ends : (n i : ℕ) → n ≤ 32 → i < n → length (ends_of (ring n) (line i)) ≡ 2
line_ends n i few l =
    two_ends n (station_after n i) i (line i) (after_within n i l) l (λ h m.
    rw (same_number (station_before n h) i (omega (arith, before_within n h m)) (omega arith), same_number h i (omega arith) (omega arith), before_is n i h l m)
    (omega arith))
