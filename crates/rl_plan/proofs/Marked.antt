-- Rounds of the search: what one segment that gets a level changes, and what many such changes come to.
use Rattle.std.proofs.Common.{◌≡◌, ℕ, ◌+◌, ◌<◌, Bool, true, false, cond, List, length, get_or, Option, Some, None, inl, inr, refl, sym, ap, subst, ◌∙◌, arith, ◌||◌}
use Rattle.std.proofs.Math.ListN.{set}
use Rattle.std.proofs.lemmas.Bool.{cases_eq}
use Rattle.std.proofs.lemmas.List.{get_or-set_same, get_or-set_other, length-set}
use Rattle.std.proofs.lemmas.List.Sums.{sum_by-set}
use Rattle.std.proofs.lemmas.Option.{same_Some}
use Rattle.std.specs.Option.{is_none}
use Rattle.rl_model.specs.declared.network.NetworkPlan.{NetworkPlan}
use Rattle.rl_plan.specs.Walks.{AreNeighbours}
use Rattle.rl_plan.specs.Levels.{level_of}
use Rattle.rl_plan.specs.Marking.{unmarked, Gives, Grows, IsGrown, IsMarked, MarksFrom, Tells}

-- nothing changes
pub grows-same : (net : NetworkPlan) (n : ℕ) (levels : List (Option ℕ)) → Grows net n levels levels
grows-same net n levels = record { each = refl; kept = λ s m is. is; only = λ r m is. inl is }

-- one segment gets a level
pub grows-one : (net : NetworkPlan) (n b s r : ℕ) (old : List (Option ℕ)) → r < length old → level_of old r ≡ None → level_of old s ≡ Some n
    → AreNeighbours net b s r → Grows net n old (set old r (Some (n + 1)))
grows-one net n b s r old there none level near = record {
  each = length-set old r (Some (n + 1));
  kept = λ x m is.
      elim (cases_eq x r) [
        | inl same ↦ absurd (let e : level_of old r ≡ Some m = subst (λ (k : ℕ). level_of old k ≡ Some m) same is in cc)
        | inr other ↦ get_or-set_other old r x (Some (n + 1)) None other ∙ is
      ];
  only = λ x m is.
      elim (cases_eq x r) [
        | inl same ↦
            inr (
              same_Some m (n + 1) (sym is ∙ (ap (λ (k : ℕ). get_or (set old r (Some (n + 1))) k None) same ∙ get_or-set_same old r (Some (n + 1)) None there)),
              (b, s, subst (λ (k : ℕ). AreNeighbours net b s k) (sym same) near, level),
            )
        | inr other ↦ inl (sym (get_or-set_other old r x (Some (n + 1)) None other) ∙ is)
      ];
}

-- one change after another
pub grows-then : (net : NetworkPlan) (n : ℕ) (a b c : List (Option ℕ)) → Grows net n a b → Grows net n b c → Grows net n a c
grows-then net n a b c first second = record {
  each = second.each ∙ first.each;
  kept = λ s m is. second.kept s m (first.kept s m is);
  only = λ r m is.
      elim (second.only r m is) [
        | inl before ↦ first.only r m before
        | inr new ↦ inr (new.0, (new.1.0, new.1.1, new.1.2, was new.1.1 new.1.3))
      ];
}
  where
    was : (s : ℕ) → level_of b s ≡ Some n → level_of a s ≡ Some n
    was s is =
        elim (first.only s n is) [
          | inl before ↦ before
          | inr new ↦ absurd (let no : n ≡ n + 1 = new.0 in omega arith)
        ]

-- a segment with a level keeps it
pub marked-kept : (net : NetworkPlan) (n r : ℕ) (a b : List (Option ℕ)) → Grows net n a b → IsMarked a r → IsMarked b r
marked-kept net n r a b grows is = (is.0, grows.kept r is.0 is.1)

-- where a segment without a level gets one, one segment less has none
pub unmarked-one : (r level : ℕ) (old : List (Option ℕ)) → r < length old → level_of old r ≡ None → unmarked (set old r (Some level)) < unmarked old
unmarked-one r level old there none =
    let f : Option ℕ → ℕ = λ o. cond (is_none o) 1 0 in
    let sums = sum_by-set f old r (Some level) None there in
    let one : f (get_or old r None) ≡ 1 = ap f none in
    omega arith

-- whether either of two changes gave a level
pub tells-then : (x y : Bool) (a b c : List (Option ℕ)) → Tells x a b → Tells y b c → Tells (y || x) a c
tells-then true true a b c first second = omega arith
tells-then true false a b c first second = subst (λ (k : List (Option ℕ)). unmarked k < unmarked a) (sym second) first
tells-then false true a b c first second = subst (λ (k : List (Option ℕ)). unmarked c < unmarked k) first second
tells-then false false a b c first second = second ∙ first

-- levels that have grown and grow on
pub grown-then : (net : NetworkPlan) (n : ℕ) (x y : Bool) (a b c : List (Option ℕ)) → IsGrown net n x a b → IsGrown net n y b c → IsGrown net n (y || x) a c
grown-then net n x y a b c first second = record {
  grows = grows-then net n a b c first.grows second.grows;
  tells = tells-then x y a b c first.tells second.tells;
}

pub grown-same : (net : NetworkPlan) (n : ℕ) (levels : List (Option ℕ)) → IsGrown net n false levels levels
grown-same net n levels = record { grows = grows-same net n levels; tells = refl }

-- one step: what it changes, and that it says so
pub gives-grown : (net : NetworkPlan) (n b s r : ℕ) (x : Bool) (old new : List (Option ℕ)) → Gives x old new r (n + 1) → r < length old
    → level_of old s ≡ Some n → AreNeighbours net b s r → IsGrown net n x old new
gives-grown net n b s r true old new gives there level near = record {
  grows = subst (λ (k : List (Option ℕ)). Grows net n old k) (sym gives.1) (grows-one net n b s r old there gives.0 level near);
  tells = subst (λ (k : List (Option ℕ)). unmarked k < unmarked old) (sym gives.1) (unmarked-one r (n + 1) old there gives.0);
}
gives-grown net n b s r false old new gives there level near = subst (λ (k : List (Option ℕ)). IsGrown net n false old k) (sym gives) (grown-same net n old)

-- what segments mark stays marked as levels grow on, and where they mark it in levels that have grown
pub marks-kept : (net : NetworkPlan) (n s : ℕ) (a b c : List (Option ℕ)) → Grows net n b c → MarksFrom net n a b s → MarksFrom net n a c s
marks-kept net n s a b c grows marks = λ x r level near. marked-kept net n r b c grows (marks x r level near)

pub marks-later : (net : NetworkPlan) (n s : ℕ) (a b c : List (Option ℕ)) → Grows net n a b → MarksFrom net n b c s → MarksFrom net n a c s
marks-later net n s a b c grows marks = λ x r level near. marks x r (grows.kept s n level) near
