-- The search of a draft's refusals answers the plain sentence, and the plain sentence has one answer.
use Rattle.std.proofs.Common.{◌≡◌, ℕ, ◌+◌, ◌<◌, ◌≤◌, true, false, Option, Some, None, ◌⊎◌, inl, inr, refl, sym, ap, ap₂, ◌∙◌, subst, arith}
use Rattle.std.proofs.lemmas.Bool.{both_ways}
use Rattle.std.proofs.lemmas.Bool.Decides.{nat_tests}
use Rattle.rl_base.specs.declared.place.Place.{Place}
use Rattle.rl_base.specs.declared.place.Place.TheVariants as place
use Rattle.rl_base.specs.declared.draft.Draft.{Draft}
use Rattle.rl_base.specs.Place.{IsNoLater}
use Rattle.rl_base.proofs.PlaceOrder.{IsNoLater-antisymmetric}
use Rattle.rl_drafts.specs.Refusals.{breaks, IsFirstRefusal, IsAccepted}
use Rattle.rl_drafts.specs.Search.{Refusal, refuse, first_refusal}
use Rattle.rl_drafts.proofs.Places.{AnswersRule, rule_5, rule_6, rule_7, rule_8, rule_9, rule_10, rule_11, rule_12, rule_13, rule_14, rule_15}

-- the second refusal isn't before the first
abbrev IsNoLaterRefusal : ℕ → Place → ℕ → Place → Type 0
IsNoLaterRefusal n p m q = (n < m) ⊎ ((n ≡ m) × IsNoLater p q)

-- r is the first refusal by a rule with a number of k or more
record IsFirstFrom (d : Draft) (k : ℕ) (r : Refusal) : Type 0 where
  from : k ≤ r.number
  broken : breaks d r.number r.place ≡ true
  least : (m : ℕ) (q : Place) → k ≤ m → breaks d m q ≡ true → IsNoLaterRefusal r.number r.place m q

-- o is the first refusal by a rule with such a number, or none is broken
abbrev AnswersFrom : Draft → ℕ → Option Refusal → Type 0
AnswersFrom d k None = (m : ℕ) (q : Place) → k ≤ m → breaks d m q ≡ false
AnswersFrom d k (Some r) = IsFirstFrom d k r

-- a number from k on is k or more
from_cases : (k m : ℕ) → k ≤ m → (m ≡ k) ⊎ (k + 1 ≤ m)
from_cases k m l = grind arith

-- a rule's own answer, and then that of the rules after it
answers_more : (d : Draft) (k : ℕ) (o : Option Place) (u : Option Refusal) → AnswersRule d k o → AnswersFrom d (k + 1) u → AnswersFrom d k (refuse k o u)
answers_more d k None None a b = λ m q l. at m q (from_cases k m l)
  where
    at : (m : ℕ) (q : Place) → (m ≡ k) ⊎ (k + 1 ≤ m) → breaks d m q ≡ false
    at m q (inl h) = ap (λ (x : ℕ). breaks d x q) h ∙ a q tt
    at m q (inr h) = b m q h
answers_more d k None (Some r) a b =
    record { from = let l = b.from in omega arith; broken = b.broken; least = λ m q l. at m q (from_cases k m l) }
  where
    at : (m : ℕ) (q : Place) → (m ≡ k) ⊎ (k + 1 ≤ m) → breaks d m q ≡ true → IsNoLaterRefusal r.number r.place m q
    at m q (inl h) e = absurd (both_ways (breaks d m q) (ap (λ (x : ℕ). breaks d x q) h ∙ a q tt) e)
    at m q (inr h) e = b.least m q h e
answers_more d k (Some p) u a b =
    record { from = omega arith; broken = a.broken; least = λ m q l. at m q (from_cases k m l) }
  where
    at : (m : ℕ) (q : Place) → (m ≡ k) ⊎ (k + 1 ≤ m) → breaks d m q ≡ true → IsNoLaterRefusal k p m q
    at m q (inl h) e = inr (sym h, a.least q tt (ap (λ (x : ℕ). breaks d x q) (sym h) ∙ e))
    at m q (inr h) e = inl (omega arith)

-- the rules have the numbers from 5 to 15
none_else : (d : Draft) (m : ℕ) (q : Place) → (m < 5) ⊎ (15 < m) → breaks d m q ≡ false
none_else d m place.Segments l = grind (arith, nat_tests)
none_else d m place.Boxes l = grind (arith, nat_tests)
none_else d m place.Trains l = grind (arith, nat_tests)
none_else d m (place.Segment i) l = grind (arith, nat_tests)
none_else d m (place.BoxName i) l = grind (arith, nat_tests)
none_else d m (place.BoxArms i) l = grind (arith, nat_tests)
none_else d m (place.BoxArm i j) l = grind (arith, nat_tests)
none_else d m (place.BoxSide i) l = grind (arith, nat_tests)
none_else d m (place.TrainName i) l = grind (arith, nat_tests)
none_else d m (place.TrainRoute i) l = grind (arith, nat_tests)
none_else d m (place.RouteItem i j) l = grind (arith, nat_tests)
none_else d m _ l = refl

-- what the whole search answers
refusal_answers : (d : Draft) → AnswersFrom d 5 (first_refusal d)
refusal_answers d =
    answers_more d 5 _ _ (rule_5 d)
    (answers_more d 6 _ _ (rule_6 d)
    (answers_more d 7 _ _ (rule_7 d)
    (answers_more d 8 _ _ (rule_8 d)
    (answers_more d 9 _ _ (rule_9 d)
    (answers_more d 10 _ _ (rule_10 d)
    (answers_more d 11 _ _ (rule_11 d)
    (answers_more d 12 _ _ (rule_12 d)
    (answers_more d 13 _ _ (rule_13 d)
    (answers_more d 14 _ _ (rule_14 d)
    (answers_more d 15 _ None (rule_15 d) (λ m q l. none_else d m q (inr (omega arith)))))))))))))

-- a rule that is broken has a number of 5 or more
from_5 : (d : Draft) (m : ℕ) (q : Place) → breaks d m q ≡ true → 5 ≤ m
from_5 d m q e = by_size (size m)
  where
    size : (m : ℕ) → (m < 5) ⊎ (5 ≤ m)
    size m = grind arith

    by_size : (m < 5) ⊎ (5 ≤ m) → 5 ≤ m
    by_size (inl l) = absurd (both_ways (breaks d m q) (none_else d m q (inl l)) e)
    by_size (inr l) = l

-- what is found is the first refusal
pub first_refusal-some : (d : Draft) (r : Refusal) → first_refusal d ≡ Some r → IsFirstRefusal d r.number r.place
first_refusal-some d r e =
    let a : IsFirstFrom d 5 r = subst (λ (o : Option Refusal). AnswersFrom d 5 o) e (refusal_answers d) in
    record { broken = a.broken; least = λ m q x. a.least m q (from_5 d m q x) x }

-- where nothing is found no rule is broken
pub first_refusal-none : (d : Draft) → first_refusal d ≡ None → IsAccepted d
first_refusal-none d e = λ m q. at m q (from_or_below m)
  where
    from_or_below : (m : ℕ) → (m < 5) ⊎ (5 ≤ m)
    from_or_below m = grind arith

    a : (m : ℕ) (q : Place) → 5 ≤ m → breaks d m q ≡ false
    a = subst (λ (o : Option Refusal). AnswersFrom d 5 o) e (refusal_answers d)

    at : (m : ℕ) (q : Place) → (m < 5) ⊎ (5 ≤ m) → breaks d m q ≡ false
    at m q (inl l) = none_else d m q (inl l)
    at m q (inr l) = a m q l

-- the first refusal is the only one
same_refusal : (d : Draft) (r u : Refusal) → IsFirstRefusal d r.number r.place → IsFirstRefusal d u.number u.place → r ≡ u
same_refusal d r u a b = both (a.least u.number u.place b.broken) (b.least r.number r.place a.broken)
  where
    both : IsNoLaterRefusal r.number r.place u.number u.place → IsNoLaterRefusal u.number u.place r.number r.place → r ≡ u
    both (inl x) (inl y) = absurd (omega arith)
    both (inl x) (inr y) = absurd (omega (arith, y.0))
    both (inr x) (inl y) = absurd (omega (arith, x.0))
    both (inr x) (inr y) =
        ap₂ (λ (n : ℕ) (p : Place). let w : Refusal = record { number = n; place = p } in w) x.0 (IsNoLater-antisymmetric r.place u.place x.1 y.1)

-- what is found is the refusal that the plain sentence names, if something is found
found_by : (d : Draft) (r : Refusal) → IsFirstRefusal d r.number r.place → (o : Option Refusal) → first_refusal d ≡ o → o ≡ Some r
found_by d r a None e = absurd (both_ways (breaks d r.number r.place) (first_refusal-none d e r.number r.place) a.broken)
found_by d r a (Some u) e = ap (λ (x : Refusal). Some x) (same_refusal d u r (first_refusal-some d u e) a)

-- the first refusal is found
pub first_refusal-found : (d : Draft) (r : Refusal) → IsFirstRefusal d r.number r.place → first_refusal d ≡ Some r
first_refusal-found d r a = found_by d r a (first_refusal d) refl

-- nothing is found where no rule is broken
none_by : (d : Draft) → IsAccepted d → (o : Option Refusal) → first_refusal d ≡ o → o ≡ None
none_by d a None e = refl
none_by d a (Some u) e = absurd (both_ways (breaks d u.number u.place) (a u.number u.place) (first_refusal-some d u e).broken)

-- where no rule is broken nothing is found
pub first_refusal-accepted : (d : Draft) → IsAccepted d → first_refusal d ≡ None
first_refusal-accepted d a = none_by d a (first_refusal d) refl
