-- Arms of a network: where a segment has an arm at a box, the box has that segment at it.
use Rattle.std.proofs.Common.{◌≡◌, ℕ, ◌<◌, ◌≤◌, length, slice_get, Option, Some, None, refl, arith, lit≤, ◌⊎◌, inl, inr}
use Rattle.std.proofs.lemmas.Bool.{cases_eq, eq-eqb, ne_eqb}
use Rattle.std.proofs.lemmas.Option.{option_and_then_some, same_Some, slice_get_cases, slice_get_past}
use Rattle.rl_base.specs.Kind.{arms_of}
use Rattle.rl_base.specs.declared.kind.Kind.{Kind}
use Rattle.rl_base.specs.declared.kind.Kind.TheVariants.{Buffer, Joint, Point, Crossing}
use Rattle.std.specs.Option.{option_map}
use Rattle.rl_base.specs.declared.ids.BoxId.{BoxId}
use Rattle.rl_base.specs.declared.ids.Arm.{Arm}
use Rattle.rl_model.specs.declared.network.Segment.{Segment}
use Rattle.rl_model.specs.declared.network.NetworkPlan.{NetworkPlan}
use Rattle.rl_domain.specs.declared.states.BoxState.{BoxState}
use Rattle.rl_domain.specs.States.{holder_at}
use Rattle.rl_model.specs.Network.{IsNetwork, arm_at, arm_of, segment_at, kind_of}

-- segment s is at arm i of box b
pub record IsAtArm (net : NetworkPlan) (s b i : ℕ) : Type 0 where
  pub box : b < length net.boxes
  pub arm : i < arms_of (kind_of net b)
  pub segment : segment_at net b i ≡ Some s

arm_at_cases : (b i : ℕ) (g : Segment) → arm_at b g ≡ Some i → ((g.low.at.0 ≡ b) × (g.low.arm.0 ≡ i)) ⊎ ((g.high.at.0 ≡ b) × (g.high.arm.0 ≡ i))
arm_at_cases b i g is =
    elim (cases_eq g.low.at.0 b) [
      | inl low ↦ inl (low, same_Some _ _ (rw (eq-eqb g.low.at.0 b low) at is))
      | inr not_low ↦
          let high_is = rw (ne_eqb g.low.at.0 b not_low) at is in
          elim (cases_eq g.high.at.0 b) [
            | inl high ↦ inr (high, same_Some _ _ (rw (eq-eqb g.high.at.0 b high) at high_is))
            | inr not_high ↦ let no = rw (ne_eqb g.high.at.0 b not_high) at high_is in absurd (cc)
          ]
    ]

pub IsAtArm-from_arm : (net : NetworkPlan) (s b i : ℕ) → IsNetwork net → arm_of net s b ≡ Some i → IsAtArm net s b i
IsAtArm-from_arm net s b i network is =
    option_and_then_some (arm_at b) (slice_get net.segments s) i is
    (λ g there at.
    let segment = network.segments s g there in
    elim (arm_at_cases b i g at) [
      | inl low ↦ rw (← low.0, ← low.1) (record { box = segment.low.box; arm = segment.low.arm; segment = segment.low.segment })
      | inr high ↦ rw (← high.0, ← high.1) (record { box = segment.high.box; arm = segment.high.arm; segment = segment.high.segment })
    ])

pub arms_few : (kind : Kind) → arms_of kind ≤ 4
arms_few Buffer = lit≤ tt
arms_few Joint = lit≤ tt
arms_few Point = lit≤ tt
arms_few Crossing = lit≤ tt

-- a box has no segment past its arms
pub no_segment : (net : NetworkPlan) (b i : ℕ) → IsNetwork net → arms_of (kind_of net b) ≤ i → segment_at net b i ≡ None
no_segment net b i network past =
    elim (slice_get_cases net.boxes b).1 [
      | inl here ↦
          let box = network.boxes b here.0 here.2 in
          let beyond = rw here.2 at past in
          let gone = slice_get_past here.0.arms i (omega (arith, box.arms, beyond)) in
          rw here.2 (rw gone refl)
      | inr out ↦ rw out.1 refl
    ]

-- nobody holds past arm 3
pub holder_past_arms : (x : BoxState) (i : ℕ) → 4 ≤ i → holder_at x i ≡ None
holder_past_arms x i past =
    let e0 = ne_eqb i 0 (λ e. omega arith) in
    let e1 = ne_eqb i 1 (λ e. omega arith) in
    let e2 = ne_eqb i 2 (λ e. omega arith) in
    let e3 = ne_eqb i 3 (λ e. omega arith) in
    rw (e0, e1, e2, e3) refl

pub option_cases : {A : Type 0} (o : Option A) → (o ≡ None) ⊎ ((x : A) × (o ≡ Some x))
option_cases None = inl refl
option_cases (Some x) = inr (x, refl)

-- the boxes at which a segment ends are there
pub ends_in_range : (net : NetworkPlan) (s : ℕ) (low high : BoxId) (x y : Arm) → IsNetwork net
    → option_map {U = (BoxId × Arm) × (BoxId × Arm)} (λ (g : Segment). ((g.low.at, g.low.arm), (g.high.at, g.high.arm))) (slice_get net.segments s)
    ≡ Some ((low, x), (high, y)) → (low.0 < length net.boxes) × (high.0 < length net.boxes)
ends_in_range net s low high x y network is =
    elim (slice_get_cases net.segments s).1 [
      | inl here ↦
          let segment = network.segments s here.0 here.2 in
          let both = rw here.2 at is in
          let lower = segment.low.box in
          let higher = segment.high.box in
          (grind arith, grind arith)
      | inr out ↦ let none = rw out.1 at is in absurd (cc)
    ]
