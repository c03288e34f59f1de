-- A segment's neighbours are those through its two ends.
use Rattle.std.proofs.Common.{◌≡◌, ℕ, ◌<◌, List, length, slice_get, Option, Some, ◌⊎◌, inl, inr, sym, ap, subst, ◌∙◌}
use Rattle.std.proofs.lemmas.Option.{slice_get_cases, same_Some}
use Rattle.std.specs.Option.{option_map}
use Rattle.rl_base.specs.declared.ids.BoxId.{BoxId}
use Rattle.rl_base.specs.declared.ids.Arm.{Arm}
use Rattle.rl_model.specs.declared.network.NetworkPlan.{NetworkPlan}
use Rattle.rl_model.specs.declared.network.Segment.{Segment}
use Rattle.rl_model.specs.Network.{IsNetwork}
use Rattle.rl_plan.specs.Walks.{AreNeighbours}
use Rattle.rl_plan.specs.Levels.{level_of}
use Rattle.rl_plan.specs.Rising.{RisesTo, RisesFrom}
use Rattle.rl_plan.proofs.BothWays.{neighbour_end}

-- the segment has these two ends
abbrev pub Ends : NetworkPlan → ℕ → ((BoxId × Arm) × (BoxId × Arm)) → Type 0
Ends net s ends = option_map {U = (BoxId × Arm) × (BoxId × Arm)} (λ (g : Segment). ((g.low.at, g.low.arm), (g.high.at, g.high.arm))) (slice_get net.segments s)
    ≡ Some ends

-- the boxes of the ends are there
pub ends_there : (net : NetworkPlan) (s : ℕ) (e : (BoxId × Arm) × (BoxId × Arm)) → IsNetwork net → Ends net s e
    → (e.0.0.0 < length net.boxes) × (e.1.0.0 < length net.boxes)
ends_there net s e network is =
    elim (slice_get_cases net.segments s).1 [
      | inl here ↦
          let segment = network.segments s here.0 here.2 in
          let both = same_Some _ _ (rw here.2 at is) in
          let low : here.0.low.at.0 ≡ e.0.0.0 = ap (λ (p : (BoxId × Arm) × (BoxId × Arm)). p.0.0.0) both in
          let high : here.0.high.at.0 ≡ e.1.0.0 = ap (λ (p : (BoxId × Arm) × (BoxId × Arm)). p.1.0.0) both in
          (subst (λ (b : ℕ). b < length net.boxes) low segment.low.box, subst (λ (b : ℕ). b < length net.boxes) high segment.high.box)
      | inr out ↦ let none = rw out.1 at is in absurd (cc)
    ]

-- the box between the segment and a neighbour is at one of the two
pub between_ends : (net : NetworkPlan) (b s r : ℕ) (e : (BoxId × Arm) × (BoxId × Arm)) → Ends net s e → AreNeighbours net b s r
    → (b ≡ e.0.0.0) ⊎ (b ≡ e.1.0.0)
between_ends net b s r e is near =
    elim (slice_get_cases net.segments s).1 [
      | inl here ↦
          let both = same_Some _ _ (rw here.2 at is) in
          elim (neighbour_end net b s r here.0 here.2 near) [
            | inl at ↦ inl (at ∙ ap (λ (p : (BoxId × Arm) × (BoxId × Arm)). p.0.0.0) both)
            | inr at ↦ inr (at ∙ ap (λ (p : (BoxId × Arm) × (BoxId × Arm)). p.1.0.0) both)
          ]
      | inr out ↦ let none = rw out.1 at is in absurd (cc)
    ]

-- through box b the levels rise from n by one at most
abbrev pub RisesThrough : NetworkPlan → List (Option ℕ) → ℕ → ℕ → ℕ → Type 0
RisesThrough net levels b s n = (r : ℕ) → AreNeighbours net b s r → RisesTo n (level_of levels r)

-- so they do from the segment, if they do through both ends
pub rises_from : (net : NetworkPlan) (levels : List (Option ℕ)) (s n : ℕ) (e : (BoxId × Arm) × (BoxId × Arm)) → Ends net s e
    → level_of levels s ≡ Some n → RisesThrough net levels e.0.0.0 s n → RisesThrough net levels e.1.0.0 s n → RisesFrom net levels s
rises_from net levels s n e is level low high = λ b r m near other.
    let same : n ≡ m = same_Some n m (sym level ∙ other) in
    elim (between_ends net b s r e is near) [
      | inl at ↦ subst (λ (k : ℕ). RisesTo k (level_of levels r)) same (low r (subst (λ (c : ℕ). AreNeighbours net c s r) at near))
      | inr at ↦ subst (λ (k : ℕ). RisesTo k (level_of levels r)) same (high r (subst (λ (c : ℕ). AreNeighbours net c s r) at near))
    ]
