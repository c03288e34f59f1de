-- Where the rules of ends are broken, from the first end that breaks one.
use Rattle.std.proofs.Common.{◌≡◌, ℕ, ◌+◌, ◌*◌, ◌/◌, ◌%◌, ◌<◌, ◌≤◌, Bool, true, false, cond, ltb, eqb, ◌&&◌, ◌||◌, length, slice_get, None, ◌⊎◌, ⊎_elim, refl, sym, ap₂, ◌∙◌, arith}
use Rattle.std.proofs.lemmas.Bool.{false≢true, both_ways, and_parts, and_left, and_right, ltb-true, lt-ltb, eqb-true, ne_eqb, cases_lt}
use Rattle.std.proofs.lemmas.Bool.Decides.{nat_tests}
use Rattle.std.proofs.lemmas.Option.{slice_get_past}
use Rattle.rl_base.specs.declared.place.Place.{Place}
use Rattle.rl_base.specs.declared.place.Place.TheVariants as place
use Rattle.rl_base.specs.Place.{IsNoLater}
use Rattle.rl_ends.specs.EndsDrafts.{texts_of, named_arms}
use Rattle.rl_ends.specs.EndRules.{end_breaks, breaks}
use Rattle.rl_ends.specs.EndRefusals.{IsKept, IsFirstBreak}
use Rattle.rl_ends.specs.declared.ends_draft.EndsDraft.{EndsDraft}
use Rattle.rl_ends.proofs.EndLists.{length-texts_of, length-named_arms}

-- the place of end k
abbrev pub end_place : ℕ → Place
end_place k = place.SegEnd (k / 2) (k % 2)

all_false : (a b c e : Bool) → cond a false (cond b false (cond c false (e && false))) ≡ false
all_false true b c e = refl
all_false false true c e = refl
all_false false false true e = refl
all_false false false false true = refl
all_false false false false false = refl

-- past the last end nothing is broken
end_breaks-past : (d : EndsDraft) (n k : ℕ) → 2 * length d.segments ≤ k → end_breaks d n k ≡ false
end_breaks-past d n k past =
    let texts = length-texts_of d.segments in
    let arms = length-named_arms d in
    let no_text : slice_get (texts_of d.segments) k ≡ None = slice_get_past (texts_of d.segments) k (omega arith) in
    let no_arm : slice_get (named_arms d) k ≡ None = slice_get_past (named_arms d) k (omega arith) in
    rw (no_text, no_arm) (all_false (eqb n 21) (eqb n 22) (eqb n 23) (eqb n 24))

-- at the place of end k a rule is broken where the end breaks it
pub at_end_place : (d : EndsDraft) (n k : ℕ) → breaks d n (end_place k) ≡ end_breaks d n k
at_end_place d n k =
    let low : ltb (k % 2) 2 ≡ true = lt-ltb (k % 2) 2 (omega arith) in
    let own : 2 * (k / 2) + k % 2 ≡ k = omega arith in
    ap₂ (λ (b : Bool) (m : ℕ). b && end_breaks d n m) low own

-- places of ends in their order
order : (a b i j : ℕ) → (a < i) ⊎ ((a ≡ i) × (b ≤ j))
    → (ltb a i || (eqb a i && (ltb b j || (eqb b j && true)))) ≡ true
order a b i j h = grind (arith, nat_tests)

box_order : (i j : ℕ) → i ≤ j → (ltb i j || (eqb i j && true)) ≡ true
box_order i j l = grind (arith, nat_tests)

no_later : (k i j : ℕ) → j < 2 → k ≤ 2 * i + j → (k / 2 < i) ⊎ ((k / 2 ≡ i) × (k % 2 ≤ j))
no_later k i j l h = grind arith

-- the first end that breaks a rule is the first place at which it is broken
pub first_end : (d : EndsDraft) (n k : ℕ) → n < 25 → end_breaks d n k ≡ true → ((j : ℕ) → j < k → end_breaks d n j ≡ false)
    → IsFirstBreak d n (end_place k)
first_end d n k of_ends here before = record { broken = at_end_place d n k ∙ here; least = least }
  where
    not_before : (m : ℕ) → end_breaks d n m ≡ true → k ≤ m
    not_before m e = ⊎_elim (λ (l : m < k). absurd (both_ways (end_breaks d n m) (before m l) e)) (λ (l : k ≤ m). l) (cases_lt m k)

    least : (q : Place) → breaks d n q ≡ true → IsNoLater (end_place k) q
    least (place.SegEnd i j) h =
        let p = and_parts (ltb j 2) (end_breaks d n (2 * i + j)) h in
        order (k / 2) (k % 2) i j (no_later k i j (ltb-true j 2 p.0) (not_before (2 * i + j) p.1))
    least (place.BoxItem i) h =
        let e : n ≡ 25 = eqb-true n 25 (and_parts (eqb n 25) _ h).0 in
        absurd (omega arith)
    least _ h = absurd (false≢true h)

-- a rule that no end breaks is kept
pub kept_ends : (d : EndsDraft) (n m : ℕ) → n < 25 → 2 * length d.segments ≤ m → ((j : ℕ) → j < m → end_breaks d n j ≡ false) → IsKept d n
kept_ends d n m of_ends all each = at
  where
    end_at : (k : ℕ) → end_breaks d n k ≡ false
    end_at k = ⊎_elim (λ (l : k < m). each k l) (λ (l : m ≤ k). end_breaks-past d n k (omega arith)) (cases_lt k m)

    at : (p : Place) → breaks d n p ≡ false
    at (place.SegEnd i j) = and_right (ltb j 2) _ (end_at (2 * i + j))
    at (place.BoxItem i) = and_left (eqb n 25) _ (ne_eqb n 25 (λ (e : n ≡ 25). absurd (omega arith)))
    at _ = refl

-- and the other way round
pub end_kept : (d : EndsDraft) (n k : ℕ) → IsKept d n → end_breaks d n k ≡ false
end_kept d n k kept = sym (at_end_place d n k) ∙ kept (end_place k)

-- the first box that breaks rule 25
pub first_box : (d : EndsDraft) (i : ℕ) → breaks d 25 (place.BoxItem i) ≡ true → ((j : ℕ) → j < i → breaks d 25 (place.BoxItem j) ≡ false)
    → IsFirstBreak d 25 (place.BoxItem i)
first_box d i here before = record { broken = here; least = least }
  where
    none : (k : ℕ) → end_breaks d 25 k ≡ true → ⊥
    none k e = false≢true e

    least : (q : Place) → breaks d 25 q ≡ true → IsNoLater (place.BoxItem i) q
    least (place.SegEnd a b) h = absurd (none (2 * a + b) (and_parts (ltb b 2) _ h).1)
    least (place.BoxItem j) h =
        let at : i ≤ j =
        ⊎_elim (λ (l : j < i). absurd (both_ways (breaks d 25 (place.BoxItem j)) (before j l) h)) (λ (l : i ≤ j). l) (cases_lt j i) in
        box_order i j at
    least _ h = absurd (false≢true h)

-- rule 25 is kept where no box breaks it
pub kept_boxes : (d : EndsDraft) (m : ℕ) → length d.boxes ≤ m → ((j : ℕ) → j < m → breaks d 25 (place.BoxItem j) ≡ false) → IsKept d 25
kept_boxes d m all each = at
  where
    at : (p : Place) → breaks d 25 p ≡ false
    at (place.SegEnd i j) = and_right (ltb j 2) _ refl
    at (place.BoxItem i) =
        ⊎_elim (λ (l : i < m). each i l)
        (λ (l : m ≤ i). let past : slice_get d.boxes i ≡ None = slice_get_past d.boxes i (omega arith) in rw past refl)
        (cases_lt i m)
    at _ = refl
