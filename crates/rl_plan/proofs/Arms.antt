-- Arms of a network: where a segment has an arm at a box, it is the segment at that arm of the box.
use Rattle.std.proofs.Common.{◌≡◌, ℕ, ◌<◌, ◌≤◌, length, slice_get, Some, lit≤, ◌⊎◌, inl, inr}
use Rattle.std.proofs.lemmas.Bool.{cases_eq, eq-eqb, ne_eqb}
use Rattle.std.proofs.lemmas.Option.{option_and_then_some, same_Some, slice_get_within}
use Rattle.rl_base.specs.Kind.{arms_of}
use Rattle.rl_base.specs.declared.kind.Kind.{Kind}
use Rattle.rl_base.specs.declared.kind.Kind.TheVariants.{Buffer, Joint, Point, Crossing}
use Rattle.rl_model.specs.declared.network.Segment.{Segment}
use Rattle.rl_model.specs.declared.network.NetworkPlan.{NetworkPlan}
use Rattle.rl_model.specs.Network.{IsNetwork, arm_at, arm_of, segment_at, kind_of}

-- segment s is at arm i of box b
pub record IsAtArm (net : NetworkPlan) (s b i : ℕ) : Type 0 where
  pub box : b < length net.boxes
  pub arm : i < arms_of (kind_of net b)
  pub segment : segment_at net b i ≡ Some s

-- the end of a segment at a box: its first or its second
pub arm_at_cases : (b i : ℕ) (g : Segment) → arm_at b g ≡ Some i → ((g.low.at.0 ≡ b) × (g.low.arm.0 ≡ i)) ⊎ ((g.high.at.0 ≡ b) × (g.high.arm.0 ≡ i))
arm_at_cases b i g is =
    elim (cases_eq g.low.at.0 b) [
      | inl low ↦ inl (low, same_Some _ _ (rw (eq-eqb g.low.at.0 b low) at is))
      | inr not_low ↦
          let high_is = rw (ne_eqb g.low.at.0 b not_low) at is in
          elim (cases_eq g.high.at.0 b) [
            | inl high ↦ inr (high, same_Some _ _ (rw (eq-eqb g.high.at.0 b high) at high_is))
            | inr not_high ↦ let no = rw (ne_eqb g.high.at.0 b not_high) at high_is in absurd (cc)
          ]
    ]

pub IsAtArm-from_arm : (net : NetworkPlan) (s b i : ℕ) → IsNetwork net → arm_of net s b ≡ Some i → IsAtArm net s b i
IsAtArm-from_arm net s b i network is =
    option_and_then_some (arm_at b) (slice_get net.segments s) i is
    (λ g there at.
    let segment = network.segments s g there in
    elim (arm_at_cases b i g at) [
      | inl low ↦ rw (← low.0, ← low.1) (record { box = segment.low.box; arm = segment.low.arm; segment = segment.low.segment })
      | inr high ↦ rw (← high.0, ← high.1) (record { box = segment.high.box; arm = segment.high.arm; segment = segment.high.segment })
    ])

-- a segment with an arm is one of the network
pub segment_there : (net : NetworkPlan) (s b i : ℕ) → arm_of net s b ≡ Some i → s < length net.segments
segment_there net s b i is = option_and_then_some (arm_at b) (slice_get net.segments s) i is (λ g there at. slice_get_within net.segments s g there)

-- no kind has more than four arms
pub arms_few : (kind : Kind) → arms_of kind ≤ 4
arms_few Buffer = lit≤ tt
arms_few Joint = lit≤ tt
arms_few Point = lit≤ tt
arms_few Crossing = lit≤ tt
