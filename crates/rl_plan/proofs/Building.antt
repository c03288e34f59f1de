-- A route that is built step by step: with any steps that lead on down it leads down from its beginning.
use Rattle.std.proofs.Common.{◌≡◌, ℕ, ◌+◌, ◌-◌, ◌<◌, List, [], ◌∷◌, ◌++◌, length, Option, Some, refl, sym, ap, subst, ◌∙◌, arith, append_assoc, length-append}
use Rattle.std.proofs.lemmas.List.{append-nil}
use Rattle.rl_base.specs.declared.ids.SegId.{SegId}
use Rattle.rl_model.specs.declared.network.NetworkPlan.{NetworkPlan}
use Rattle.rl_model.specs.Network.{IsSegmentOf}
use Rattle.rl_plan.specs.declared.plan.PlanStep.{PlanStep}
use Rattle.rl_plan.specs.Levels.{level_of}
use Rattle.rl_plan.specs.Plans.{IsChosen, LeadsDown}
use Rattle.rl_plan.proofs.BothWays.{neighbour_there}

-- k of n steps are built, and the segment reached has the level that is left
pub record IsBuilt (net : NetworkPlan) (levels : List (Option ℕ)) (begin n k : ℕ) (s : SegId) (route : List PlanStep) : Type 0 where
  pub there : IsSegmentOf net s
  pub long : length route ≡ k
  pub level : level_of levels s.0 ≡ Some (n - k)
  pub leads : (rest : List PlanStep) → length rest ≡ n - k → LeadsDown net levels s.0 rest → LeadsDown net levels begin (route ++ rest)

-- nothing built yet
pub built_none : (net : NetworkPlan) (levels : List (Option ℕ)) (n : ℕ) (s : SegId) → IsSegmentOf net s → level_of levels s.0 ≡ Some n
    → IsBuilt net levels s.0 n 0 s []
built_none net levels n s there level =
    let whole : n ≡ n - 0 = omega arith in
    record { there = there; long = refl; level = subst (λ (m : ℕ). level_of levels s.0 ≡ Some m) whole level; leads = λ rest long down. down }

-- a step more
pub built_more : (net : NetworkPlan) (levels : List (Option ℕ)) (begin n k : ℕ) (s : SegId) (route : List PlanStep) (step : PlanStep) → k < n
    → IsBuilt net levels begin n k s route → IsChosen net levels s.0 (n - k - 1) step → IsBuilt net levels begin n (k + 1) step.s (route ++ step ∷ [])
built_more net levels begin n k s route step below built chosen =
    let left : n - k - 1 ≡ n - (k + 1) = omega arith in
    record {
      there = neighbour_there net step.b.0 s.0 step.s.0 chosen.leads.near;
      long = length-append route (step ∷ []) ∙ ap (λ (m : ℕ). m + 1) built.long;
      level = subst (λ (m : ℕ). level_of levels step.s.0 ≡ Some m) left chosen.leads.level;
      leads = λ rest long down.
          let e : length rest ≡ n - k - 1 = omega arith in
          let all : length (step ∷ rest) ≡ n - k = omega arith in
          subst (λ (xs : List PlanStep). LeadsDown net levels begin xs) (sym (append_assoc route (step ∷ []) rest))
          (built.leads (step ∷ rest) all (subst (λ (m : ℕ). IsChosen net levels s.0 m step) (sym e) chosen, down));
    }

-- all built
pub built_all : (net : NetworkPlan) (levels : List (Option ℕ)) (begin n k : ℕ) (s : SegId) (route : List PlanStep) → k ≡ n
    → IsBuilt net levels begin n k s route → (length route ≡ n) × LeadsDown net levels begin route
built_all net levels begin n k s route all built =
    let none : 0 ≡ n - k = omega arith in (
      built.long ∙ all,
      subst (λ (xs : List PlanStep). LeadsDown net levels begin xs) (append-nil route)
          (built.leads [] none (subst (λ (m : ℕ). level_of levels s.0 ≡ Some m) (sym none) built.level)),
    )

-- the level that is left, as that above the next one
pub left_above : (net : NetworkPlan) (levels : List (Option ℕ)) (begin n k : ℕ) (s : SegId) (route : List PlanStep) → k < n
    → IsBuilt net levels begin n k s route → level_of levels s.0 ≡ Some (n - k - 1 + 1)
left_above net levels begin n k s route below built =
    let e : n - k ≡ n - k - 1 + 1 = omega arith in
    subst (λ (m : ℕ). level_of levels s.0 ≡ Some m) e built.level
