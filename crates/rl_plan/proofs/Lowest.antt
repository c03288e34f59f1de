-- The lowest segment at one arm more, and at all arms.
use Rattle.std.proofs.Common.{◌≡◌, ℕ, ◌+◌, ◌<◌, ◌≤◌, min, IfSome, IfNone, List, Option, Some, None, ◌⊎◌, inl, inr, sym, subst, ◌∙◌, arith}
use Rattle.std.proofs.lemmas.Bool.{cases_lt}
use Rattle.std.proofs.lemmas.Option.{same_Some}
use Rattle.rl_base.specs.declared.ids.SegId.{SegId}
use Rattle.rl_model.specs.declared.network.NetworkPlan.{NetworkPlan}
use Rattle.rl_model.specs.Network.{IsNetwork, segment_at}
use Rattle.rl_plan.specs.Choosing.{IsLowest, IsLowestOf, IsNext, lower}
use Rattle.rl_plan.proofs.BothWays.{neighbour_arm}

-- what is found at one arm: a segment there that is one, or none there is
abbrev pub IsNextAt : NetworkPlan → List (Option ℕ) → ℕ → ℕ → ℕ → ℕ → Option SegId → Type 0
IsNextAt net levels b s n y (Some r) = IsNext net levels b s n r.0 × (segment_at net b y ≡ Some r.0)
IsNextAt net levels b s n y None = (r : ℕ) → segment_at net b y ≡ Some r → ¬ IsNext net levels b s n r

-- so it is where each answer has its cause
pub next_at_is : (net : NetworkPlan) (levels : List (Option ℕ)) (b s n y : ℕ) (o : Option SegId)
    → IfSome o (λ (r : SegId). IsNext net levels b s n r.0 × (segment_at net b y ≡ Some r.0))
    → IfNone o ((r : ℕ) → segment_at net b y ≡ Some r → ¬ IsNext net levels b s n r) → IsNextAt net levels b s n y o
next_at_is net levels b s n y (Some r) some none = some
next_at_is net levels b s n y None some none = none

-- one of the arms so far, or the one after them
arm_cases : (x y : ℕ) → x < y + 1 → (x < y) ⊎ (x ≡ y)
arm_cases x y below =
    elim (cases_lt x y) [
      | inl less ↦ inl less
      | inr past ↦ inr (omega arith)
    ]

-- one arm more
pub lowest_more : (net : NetworkPlan) (levels : List (Option ℕ)) (b s n y : ℕ) (best new : Option SegId) → IsLowestOf net levels b s n y best
    → IsNextAt net levels b s n y new → IsLowestOf net levels b s n (y + 1) (lower best new)
lowest_more net levels b s n y (Some p) (Some r) so_far here = (
  elim (cases_lt p.0 r.0) [
    | inl less ↦ let e : p.0 ≡ min p.0 r.0 = omega arith in subst (λ (k : ℕ). IsNext net levels b s n k) e so_far.0
    | inr past ↦ let e : r.0 ≡ min p.0 r.0 = omega arith in subst (λ (k : ℕ). IsNext net levels b s n k) e here.0
  ],
  λ x q below at next.
      elim (arm_cases x y below) [
        | inl less ↦ let low : p.0 ≤ q = so_far.1 x q less at next in omega arith
        | inr same ↦
            let e : r.0 ≡ q = same_Some r.0 q (sym here.1 ∙ subst (λ (k : ℕ). segment_at net b k ≡ Some q) same at) in
            omega arith
      ],
)
lowest_more net levels b s n y (Some p) None so_far here = (
  so_far.0,
  λ x q below at next.
      elim (arm_cases x y below) [
        | inl less ↦ so_far.1 x q less at next
        | inr same ↦ absurd (here q (subst (λ (k : ℕ). segment_at net b k ≡ Some q) same at) next)
      ],
)
lowest_more net levels b s n y None (Some r) so_far here = (
  here.0,
  λ x q below at next.
      elim (arm_cases x y below) [
        | inl less ↦ absurd (so_far x q less at next)
        | inr same ↦
            let e : r.0 ≡ q = same_Some r.0 q (sym here.1 ∙ subst (λ (k : ℕ). segment_at net b k ≡ Some q) same at) in
            omega arith
      ],
)
lowest_more net levels b s n y None None so_far here = λ x q below at next.
    elim (arm_cases x y below) [
      | inl less ↦ so_far x q less at next
      | inr same ↦ here q (subst (λ (k : ℕ). segment_at net b k ≡ Some q) same at) next
    ]

-- four arms are all that a box has
pub lowest_all : (net : NetworkPlan) (levels : List (Option ℕ)) (b s n y : ℕ) (best : Option SegId) → IsNetwork net → 4 ≤ y
    → IsLowestOf net levels b s n y best → IsLowest net levels b s n best
lowest_all net levels b s n y (Some p) network all so_far = (
  so_far.0,
  λ q next.
      let at = neighbour_arm net b s q network next.near in
      let below : at.0 < y = omega arith in
      so_far.1 at.0 q below at.2 next,
)
lowest_all net levels b s n y None network all so_far = λ q next.
    let at = neighbour_arm net b s q network next.near in
    let below : at.0 < y = omega arith in
    so_far at.0 q below at.2 next
