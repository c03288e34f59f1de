-- The search: what stands at its start, and after a round more.
use Rattle.std.proofs.Common.{◌≡◌, ℕ, ◌+◌, ◌<◌, ◌≤◌, Bool, true, false, List, ◌∷◌, ◌++◌, take, drop, length, Option, Some, None, ◌⊎◌, inl, inr, refl, sym, subst, ◌∙◌, arith}
use Rattle.std.proofs.lemmas.Bool.{cases_lt}
use Rattle.rl_base.specs.declared.ids.SegId.{SegId}
use Rattle.std.proofs.lemmas.Grind.{common_steps}
use Rattle.rl_model.specs.declared.network.NetworkPlan.{NetworkPlan}
use Rattle.rl_model.specs.Network.{IsNetwork}
use Rattle.rl_plan.specs.declared.plan.PlanStep.{PlanStep}
use Rattle.rl_plan.specs.Walks.{AreNeighbours}
use Rattle.rl_plan.specs.Levels.{level_of, HasWalk}
use Rattle.rl_plan.specs.Rising.{RisesTo}
use Rattle.rl_plan.specs.Marking.{unmarked, Grows, IsGrown, IsMarked, MarksFrom, Tells}
use Rattle.rl_plan.specs.Searching.{AreLevels, GoesOn, IsSearched}
use Rattle.rl_plan.proofs.BothWays.{neighbours-swap}

-- a walk from a neighbour has a step more
step_more : (net : NetworkPlan) (to b s r n : ℕ) → AreNeighbours net b s r → HasWalk net to s n → HasWalk net to r (n + 1)
step_more net to b s r n near walk =
    let step : PlanStep = record { b = record { 0 = b }; s = record { 0 = s } } in
    let long : length walk.0 ≡ n = walk.2 in
    (step ∷ walk.0, (neighbours-swap net b s r near, walk.1), omega arith)

-- a level at most one above is still so where levels have been kept
rises_kept : (net : NetworkPlan) (n m r : ℕ) (old new : List (Option ℕ)) → Grows net n old new → RisesTo m (level_of old r) → RisesTo m (level_of new r)
rises_kept net n m r old new grows rises = by_level (level_of old r) refl rises
  where
    by_level : (o : Option ℕ) → level_of old r ≡ o → RisesTo m o → RisesTo m (level_of new r)
    by_level (Some k) is few = subst (λ (o : Option ℕ). RisesTo m o) (sym (grows.kept r k is)) few
    by_level None is none = absurd none

-- a segment with a level that is low enough rises by one at most
rises_low : (n r : ℕ) (levels : List (Option ℕ)) → ((k : ℕ) → level_of levels r ≡ Some k → k ≤ n + 1) → IsMarked levels r → RisesTo n (level_of levels r)
rises_low n r levels low marked = subst (λ (o : Option ℕ). RisesTo n o) (sym marked.1) (low marked.0 marked.1)

-- a round more
pub next_round : (net : NetworkPlan) (to n : ℕ) (more : Bool) (old new : List (Option ℕ)) → IsSearched net to n true old → IsGrown net n more old new
    → ((s : ℕ) → MarksFrom net n old new s) → IsSearched net to (n + 1) more new
next_round net to n more old new so_far grown marks = record {
  each = grown.grows.each ∙ so_far.each;
  end = grown.grows.kept to 0 so_far.end;
  walks = walks_now;
  low = low_now;
  near = near_now;
  goes_on = goes_on_now more grown.tells;
}
  where
    walks_now : (s m : ℕ) → level_of new s ≡ Some m → HasWalk net to s m
    walks_now s m is =
        elim (grown.grows.only s m is) [
          | inl before ↦ so_far.walks s m before
          | inr one ↦
              subst (λ (k : ℕ). HasWalk net to s k) (sym one.0)
              (step_more net to one.1.0 one.1.1 s n one.1.2 (so_far.walks one.1.1 n one.1.3))
        ]

    low_now : (s m : ℕ) → level_of new s ≡ Some m → m ≤ n + 1
    low_now s m is =
        elim (grown.grows.only s m is) [
          | inl before ↦ let few : m ≤ n = so_far.low s m before in omega arith
          | inr one ↦ let e : m ≡ n + 1 = one.0 in omega arith
        ]

    m_below : (m : ℕ) → m < n + 1 → (m < n) ⊎ (m ≡ n)
    m_below m below =
        elim (cases_lt m n) [
          | inl less ↦ inl less
          | inr past ↦ inr (omega arith)
        ]

    before_or_last : (s b r m : ℕ) → level_of old s ≡ Some m → m < n + 1 → AreNeighbours net b s r → RisesTo m (level_of new r)
    before_or_last s b r m before below near =
        elim (m_below m below) [
          | inl less ↦ rises_kept net n m r old new grown.grows (so_far.near s b r m before less near)
          | inr same ↦
              subst (λ (k : ℕ). RisesTo k (level_of new r)) (sym same)
              (rises_low n r new (λ k. low_now r k) (marks s b r (subst (λ (k : ℕ). level_of old s ≡ Some k) same before) near))
        ]

    near_now : (s b r m : ℕ) → level_of new s ≡ Some m → m < n + 1 → AreNeighbours net b s r → RisesTo m (level_of new r)
    near_now s b r m is below near =
        elim (grown.grows.only s m is) [
          | inl before ↦ before_or_last s b r m before below near
          | inr one ↦ absurd (let e : m ≡ n + 1 = one.0 in omega arith)
        ]

    goes_on_now : (x : Bool) → Tells x old new → GoesOn net (n + 1) x new
    goes_on_now true fewer = let left : n + unmarked old < length net.segments = so_far.goes_on in omega arith
    goes_on_now false same = λ s b r m near is.
        let before : level_of old s ≡ Some m = subst (λ (k : List (Option ℕ)). level_of k s ≡ Some m) same is in
        let few : m ≤ n = so_far.low s m before in
        let below : m < n + 1 = omega arith in
        near_now s b r m is below near

-- while the search goes on there have been fewer rounds than segments
pub few_rounds : (net : NetworkPlan) (to n : ℕ) (more : Bool) (levels : List (Option ℕ)) → IsNetwork net → IsSearched net to n more levels → more ≡ true
    → n + 1 < 4294967296
few_rounds net to n more levels network so_far on =
    let goes : GoesOn net n true levels = subst (λ (x : Bool). GoesOn net n x levels) on so_far.goes_on in
    let few : length net.segments ≤ 256 = network.few_segments in
    let rounds : n + unmarked levels < length net.segments = goes in
    omega arith

-- the same of a search that goes on
pub next_of : (net : NetworkPlan) (to n : ℕ) (was more : Bool) (old new : List (Option ℕ)) → was ≡ true → IsSearched net to n was old
    → IsGrown net n more old new
    → ((s : ℕ) → MarksFrom net n old new s) → IsSearched net to (n + 1) more new
next_of net to n was more old new on so_far grown marks =
    next_round net to n more old new (subst (λ (x : Bool). IsSearched net to n x old) on so_far) grown marks

-- a list that is lent whole and comes back as long as it was
pub put_back : (len : ℕ) (old new : List (Option ℕ)) → len ≡ length old → length new ≡ length old → take len (new ++ drop (length new) old) ≡ new
put_back len old new e same = grind (arith, common_steps)

-- what a search has found in the end
pub found : (net : NetworkPlan) (to : SegId) (n : ℕ) (levels : List (Option ℕ)) → IsSearched net to.0 n false levels → AreLevels net to levels
found net to n levels last = record { each = last.each; end = last.end; walks = last.walks; rises = last.goes_on }
