-- The first refusal from the rules that are kept and the one that isn't, and that no other answer is right.
use Rattle.std.proofs.Common.{◌≡◌, ℕ, ◌+◌, ◌<◌, ◌≤◌, true, false, cond, eqb, Result, Ok, Err, ◌⊎◌, inl, inr, ⊎_elim, refl, sym, ap, ap₂, ◌∙◌, subst, arith}
use Rattle.std.specs.Prelude.{IfOk, OnOk, IfErr}
use Rattle.std.proofs.lemmas.Bool.{both_ways, and_left, and_right, ne_eqb, cases_lt}
use Rattle.rl_base.specs.declared.draft.Draft.{Draft}
use Rattle.rl_base.specs.declared.place.Place.{Place}
use Rattle.rl_base.specs.declared.place.Place.TheVariants as place
use Rattle.rl_base.specs.Place.{IsNoLater}
use Rattle.rl_base.proofs.PlaceOrder.{IsNoLater-antisymmetric}
use Rattle.rl_drafts.specs.Search.{Refusal}
use Rattle.rl_ends.specs.EndsDrafts.{draft_of}
use Rattle.rl_ends.specs.EndRules.{end_breaks, breaks, IsUnbroken, IsFirstOf}
use Rattle.rl_ends.specs.EndRefusals.{refusal_number, refusal_place, IsRefusal, IsRight, UnlessMemory, IsKept, IsFirstBreak, RefusesBy}
use Rattle.rl_ends.specs.declared.ends_draft.EndsDraft.{EndsDraft}
use Rattle.rl_ends.specs.declared.refusal.EndRefusal.{EndRefusal}
use Rattle.rl_ends.specs.declared.refusal.EndRefusal.TheVariants.{EndText, NoBox, NoArm, ArmTwice, ArmFree, NoMemory}

-- each rule with a lower number is kept
abbrev pub AreKeptBelow : EndsDraft → ℕ → Type 0
AreKeptBelow d n = (m : ℕ) → m < n → IsKept d m

-- no rule has another number
else_kept : (d : EndsDraft) (m : ℕ) → (m < 21) ⊎ (25 < m) → IsKept d m
else_kept d m l = at
  where
    apart : (n : ℕ) → 21 ≤ n → n ≤ 25 → eqb m n ≡ false
    apart n low high = ne_eqb m n (λ (e : m ≡ n). ⊎_elim (λ (a : m < 21). absurd (omega arith)) (λ (a : 25 < m). absurd (omega arith)) l)

    end_at : (k : ℕ) → end_breaks d m k ≡ false
    end_at k =
        let a : eqb m 21 ≡ false = apart 21 (omega arith) (omega arith) in
        let b : eqb m 22 ≡ false = apart 22 (omega arith) (omega arith) in
        let c : eqb m 23 ≡ false = apart 23 (omega arith) (omega arith) in
        let e : eqb m 24 ≡ false = apart 24 (omega arith) (omega arith) in
        rw (a, b, c, e) refl

    at : (p : Place) → breaks d m p ≡ false
    at (place.SegEnd i j) = and_right _ _ (end_at _)
    at (place.BoxItem i) = and_left (eqb m 25) _ (apart 25 (omega arith) (omega arith))
    at _ = refl

pub below_21 : (d : EndsDraft) → AreKeptBelow d 21
below_21 d m l = else_kept d m (inl l)

-- one rule more
pub kept_more : (d : EndsDraft) (n k : ℕ) → k ≡ n + 1 → AreKeptBelow d n → IsKept d n → AreKeptBelow d k
kept_more d n k next below here m l =
    ⊎_elim (λ (a : m < n). below m a) (λ (a : n ≤ m). let e : n ≡ m = omega arith in subst (λ (x : ℕ). IsKept d x) e here) (cases_lt m n)

-- where all five are kept no rule is broken
pub unbroken : (d : EndsDraft) → AreKeptBelow d 26 → IsUnbroken d
unbroken d below m = ⊎_elim (λ (a : m < 26). below m a) (λ (a : 26 ≤ m). else_kept d m (inr (omega arith))) (cases_lt m 26)

-- the first place of a rule is the first refusal where the rules before it are kept
pub first_by : (d : EndsDraft) (n : ℕ) (p : Place) → AreKeptBelow d n → IsFirstBreak d n p → IsFirstOf (breaks d) n p
first_by d n p below h = record { broken = h.broken; least = λ m q e. at m q e }
  where
    at : (m : ℕ) (q : Place) → breaks d m q ≡ true → (n < m) ⊎ ((n ≡ m) × IsNoLater p q)
    at m q e =
        ⊎_elim (λ (a : m < n). absurd (both_ways (breaks d m q) (below m a q) e))
        (λ (a : n ≤ m).
        ⊎_elim (λ (b : n < m). inl b)
        (λ (b : m ≤ n). let same : n ≡ m = omega arith in
        inr (same, h.least q (subst (λ (x : ℕ). breaks d x q ≡ true) (sym same) e)))
        (cases_lt n m))
        (cases_lt m n)

pub first_refusal : (d : EndsDraft) (n : ℕ) (e : EndRefusal) → AreKeptBelow d n → RefusesBy d n e → IsRefusal d e
first_refusal d n NoMemory below h = tt
first_refusal d n e below h =
    subst (λ (x : ℕ). IsFirstOf (breaks d) x (refusal_place e)) (sym h.0) (first_by d n (refusal_place e) below h.1)

-- a first refusal refuses nothing that breaks no rule
only_for_memory : (d : EndsDraft) (e : EndRefusal) → IsUnbroken d → IsRefusal d e → e ≡ NoMemory
only_for_memory d NoMemory fine refused = refl
only_for_memory d e fine refused =
    absurd (both_ways (breaks d (refusal_number e) (refusal_place e)) (fine (refusal_number e) (refusal_place e)) refused.broken)

pub only_memory : (d : EndsDraft) (answer : Result Draft EndRefusal) → IfErr answer (IsRefusal d) → IsUnbroken d → IfErr answer (λ e. e ≡ NoMemory)
only_memory d (Ok draft) refused fine = tt
only_memory d (Err e) refused fine = only_for_memory d e fine refused

abbrev numbered : EndRefusal → Refusal
numbered e = record { number = refusal_number e; place = refusal_place e }

-- the refusal that has them
refusal_with : Refusal → EndRefusal
refusal_with r =
    cond (eqb r.number 21) (EndText r.place)
    (cond (eqb r.number 22) (NoBox r.place)
    (cond (eqb r.number 23) (NoArm r.place)
    (cond (eqb r.number 24) (ArmTwice r.place) (cond (eqb r.number 25) (ArmFree r.place) NoMemory))))

refusal_with-own : (e : EndRefusal) → refusal_with (numbered e) ≡ e
unfolding refusal_with
refusal_with-own (EndText p) = refl
refusal_with-own (NoBox p) = refl
refusal_with-own (NoArm p) = refl
refusal_with-own (ArmTwice p) = refl
refusal_with-own (ArmFree p) = refl
refusal_with-own NoMemory = refl

-- two first refusals are one
pub same_numbered : (d : EndsDraft) (r u : Refusal) → IsFirstOf (breaks d) r.number r.place → IsFirstOf (breaks d) u.number u.place → r ≡ u
same_numbered d r u a b = both (a.least u.number u.place b.broken) (b.least r.number r.place a.broken)
  where
    both : (r.number < u.number) ⊎ ((r.number ≡ u.number) × IsNoLater r.place u.place)
        → (u.number < r.number) ⊎ ((u.number ≡ r.number) × IsNoLater u.place r.place) → r ≡ u
    both (inl x) (inl y) = absurd (omega arith)
    both (inl x) (inr y) = absurd (omega (arith, y.0))
    both (inr x) (inl y) = absurd (omega (arith, x.0))
    both (inr x) (inr y) =
        ap₂ (λ (n : ℕ) (p : Place). let w : Refusal = record { number = n; place = p } in w) x.0 (IsNoLater-antisymmetric r.place u.place x.1 y.1)

same_refusal : (d : EndsDraft) (e q : EndRefusal) → IsFirstOf (breaks d) (refusal_number e) (refusal_place e)
    → IsFirstOf (breaks d) (refusal_number q) (refusal_place q) → e ≡ q
same_refusal d e q a b =
    sym (refusal_with-own e) ∙ (ap refusal_with (same_numbered d (numbered e) (numbered q) a b) ∙ refusal_with-own q)

-- any right answer is the one that is given, unless memory ran out
pub one_answer : (d : EndsDraft) (answer other : Result Draft EndRefusal) → OnOk answer (IsUnbroken d) → IfOk answer (λ x. x ≡ draft_of d)
    → IfErr answer (IsRefusal d) → IsRight d other → UnlessMemory answer (answer ≡ other)
one_answer d (Ok draft) (Ok own) fine same refused right = ap (λ (x : Draft). Ok x) (same ∙ sym right.1)
one_answer d (Ok draft) (Err q) fine same refused right =
    absurd (both_ways (breaks d (refusal_number q) (refusal_place q)) (fine (refusal_number q) (refusal_place q)) right.broken)
one_answer d (Err NoMemory) other fine same refused right = tt
one_answer d (Err e) (Ok own) fine same refused right =
    absurd (both_ways (breaks d (refusal_number e) (refusal_place e)) (right.0 (refusal_number e) (refusal_place e)) refused.broken)
one_answer d (Err e) (Err q) fine same refused right = ap (λ (x : EndRefusal). Err x) (same_refusal d e q refused right)
