-- The search of the first refusal of ends answers the plain sentence.
use Rattle.std.proofs.Common.{◌≡◌, ℕ, zero, suc, ◌+◌, ◌*◌, ◌<◌, ◌≤◌, Bool, true, false, cond, length, Option, Some, None, option_map, ⊎_elim, refl, ap, subst, arith}
use Rattle.std.specs.Option.{option_or}
use Rattle.std.proofs.lemmas.Bool.{both_ways, cases_lt}
use Rattle.rl_base.specs.declared.place.Place.{Place}
use Rattle.rl_base.specs.declared.place.Place.TheVariants as place
use Rattle.rl_drafts.specs.Search.{Refusal, refuse}
use Rattle.rl_ends.specs.EndRules.{end_breaks, breaks, IsUnbroken, IsFirstOf}
use Rattle.rl_ends.specs.EndRefusals.{IsKept, IsFirstBreak}
use Rattle.rl_ends.specs.Search.{least_below, end_place, first_end, first_box, first_refusal}
use Rattle.rl_ends.specs.declared.ends_draft.EndsDraft.{EndsDraft}
use Rattle.rl_ends.proofs.Answered.{AreKeptBelow, below_21, kept_more, unbroken, first_by, same_numbered}
use Rattle.rl_ends.proofs.Rules as rules

-- k is the least number below n at which the test passes
record IsLeast (test : ℕ → Bool) (k : ℕ) : Type 0 where
  passes : test k ≡ true
  before : (j : ℕ) → j < k → test j ≡ false

abbrev Finds : (ℕ → Bool) → ℕ → Option ℕ → Type 0
Finds test n None = (j : ℕ) → j < n → test j ≡ false
Finds test n (Some k) = IsLeast test k

finds : (test : ℕ → Bool) (n : ℕ) → Finds test n (least_below test n)
finds test zero = λ j l. absurd (omega arith)
finds test (suc n) = step (least_below test n) (finds test n) (test n) refl
  where
    step : (o : Option ℕ) → Finds test n o → (t : Bool) → test n ≡ t → Finds test (suc n) (option_or o (cond t (Some n) None))
    step (Some k) h t e = h
    step None h true e = record { passes = e; before = h }
    step None h false e = λ j l. ⊎_elim (λ (a : j < n). h j a) (λ (a : n ≤ j). let same : n ≡ j = omega arith in subst (λ (m : ℕ). test m ≡ false) same e)
        (cases_lt j n)

-- the first place at which a rule is broken, or that it is kept
abbrev AnswersRule : EndsDraft → ℕ → Option Place → Type 0
AnswersRule d n None = IsKept d n
AnswersRule d n (Some p) = IsFirstBreak d n p

end_rule : (d : EndsDraft) (n : ℕ) → n < 25 → AnswersRule d n (first_end d n)
end_rule d n l = by (least_below (end_breaks d n) (2 * length d.segments)) (finds (end_breaks d n) (2 * length d.segments))
  where
    by : (o : Option ℕ) → Finds (end_breaks d n) (2 * length d.segments) o → AnswersRule d n (option_map end_place o)
    by None h = rules.kept_ends d n (2 * length d.segments) l (omega arith) h
    by (Some k) h = rules.first_end d n k l h.passes h.before

box_rule : (d : EndsDraft) → AnswersRule d 25 (first_box d)
box_rule d = by (least_below (λ i. breaks d 25 (place.BoxItem i)) (length d.boxes)) (finds (λ i. breaks d 25 (place.BoxItem i)) (length d.boxes))
  where
    by : (o : Option ℕ) → Finds (λ i. breaks d 25 (place.BoxItem i)) (length d.boxes) o → AnswersRule d 25 (option_map (λ i. place.BoxItem i) o)
    by None h = rules.kept_boxes d (length d.boxes) (omega arith) h
    by (Some i) h = rules.first_box d i h.passes h.before

-- the first refusal, or that no rule is broken
abbrev Answers : EndsDraft → Option Refusal → Type 0
Answers d None = IsUnbroken d
Answers d (Some r) = IsFirstOf (breaks d) r.number r.place

-- a rule's own answer, and then that of the rules after it
then_rule : (d : EndsDraft) (k : ℕ) (o : Option Place) (u : Option Refusal) → AreKeptBelow d k → AnswersRule d k o → (AreKeptBelow d (k + 1) → Answers d u)
    → Answers d (refuse k o u)
then_rule d k None u below h rest = rest (kept_more d k (k + 1) refl below h)
then_rule d k (Some p) u below h rest = first_by d k p below h

answers : (d : EndsDraft) → Answers d (first_refusal d)
answers d =
    then_rule d 21 _ _ (below_21 d) (end_rule d 21 (omega arith)) (λ a.
    then_rule d 22 _ _ a (end_rule d 22 (omega arith)) (λ b.
    then_rule d 23 _ _ b (end_rule d 23 (omega arith)) (λ c.
    then_rule d 24 _ _ c (end_rule d 24 (omega arith)) (λ e.
    then_rule d 25 _ None e (box_rule d) (λ f. unbroken d f)))))

pub first_refusal-some : (d : EndsDraft) (r : Refusal) → first_refusal d ≡ Some r → IsFirstOf (breaks d) r.number r.place
first_refusal-some d r e = subst (Answers d) e (answers d)

pub first_refusal-none : (d : EndsDraft) → first_refusal d ≡ None → IsUnbroken d
first_refusal-none d e = subst (Answers d) e (answers d)

pub first_refusal-found : (d : EndsDraft) (r : Refusal) → IsFirstOf (breaks d) r.number r.place → first_refusal d ≡ Some r
first_refusal-found d r a = by (first_refusal d) refl
  where
    by : (o : Option Refusal) → first_refusal d ≡ o → o ≡ Some r
    by None e = absurd (both_ways (breaks d r.number r.place) (first_refusal-none d e r.number r.place) a.broken)
    by (Some u) e = ap (λ (x : Refusal). Some x) (same_numbered d u r (first_refusal-some d u e) a)

pub first_refusal-unbroken : (d : EndsDraft) → IsUnbroken d → first_refusal d ≡ None
first_refusal-unbroken d a = by (first_refusal d) refl
  where
    by : (o : Option Refusal) → first_refusal d ≡ o → o ≡ None
    by None e = refl
    by (Some u) e = absurd (both_ways (breaks d u.number u.place) (a u.number u.place) (first_refusal-some d u e).broken)
