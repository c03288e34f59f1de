-- Arms and segments of a network: a segment has an arm at a box exactly where the box has the segment at that arm.
use Rattle.std.proofs.Common.{◌≡◌, ℕ, ◌==◌, Bool, true, false, cond, slice_get, Some, None, refl, subst, arith}
use Rattle.std.specs.Prelude.{option_map}
use Rattle.std.proofs.lemmas.Bool.Decides.{nat_tests}
use Rattle.std.proofs.lemmas.Option.{option_and_then_some}
use Rattle.rl_base.specs.declared.ids.SegId.{SegId}
use Rattle.rl_model.specs.declared.network.Segment.{Segment}
use Rattle.rl_model.specs.declared.network.SwitchBox.{SwitchBox}
use Rattle.rl_model.specs.declared.network.NetworkPlan.{NetworkPlan}
use Rattle.rl_model.specs.Network.{arm_at, arm_of, segment_at, IsSegment, IsNetwork}

-- a segment is at arm x of box b exactly where that arm of the box has it
pub record ArePlaced (net : NetworkPlan) : Type 0 where
  pub to_segment : (s b x : ℕ) → arm_of net s b ≡ Some x → segment_at net b x ≡ Some s
  pub to_arm : (s b x : ℕ) → segment_at net b x ≡ Some s → arm_of net s b ≡ Some x

-- the arm of a segment is one of its two ends
one_end : (net : NetworkPlan) (s b x : ℕ) (g : Segment) → IsSegment net s g → arm_at b g ≡ Some x → segment_at net b x ≡ Some s
one_end net s b x g is h =
    let low = is.low.segment in
    let high = is.high.segment in
    end_is (g.low.at.0 == b) (g.high.at.0 == b) h
    (λ e f. subst (λ y. segment_at net y x ≡ Some s) (at_box g.low.at.0 e) (subst (λ y. segment_at net g.low.at.0 y ≡ Some s) (same f) low))
    (λ e f. subst (λ y. segment_at net y x ≡ Some s) (at_box g.high.at.0 e) (subst (λ y. segment_at net g.high.at.0 y ≡ Some s) (same f) high))
  where
    at_box : (y : ℕ) → (y == b) ≡ true → y ≡ b
    at_box y e = grind (arith, nat_tests)

    same : {y z : ℕ} → Some y ≡ Some z → y ≡ z
    same e = cc

    end_is : (p q : Bool) {P : Type 0} → cond p (Some g.low.arm.0) (cond q (Some g.high.arm.0) None) ≡ Some x → (p ≡ true → Some g.low.arm.0 ≡ Some x → P)
        → (q ≡ true → Some g.high.arm.0 ≡ Some x → P) → P
    end_is true q h low high = low refl h
    end_is false true h low high = high refl h
    end_is false false h low high = cc

pub placed : (net : NetworkPlan) → IsNetwork net → ArePlaced net
placed net network =
    record {
      to_segment = λ s b x h. option_and_then_some (arm_at b) (slice_get net.segments s) x h
          (λ g there is. one_end net s b x g (network.segments s g there) is);
      to_arm = λ s b x h. option_and_then_some (λ (y : SwitchBox). option_map (λ (s : SegId). s.0) (slice_get y.arms x)) (slice_get net.boxes b) s h
          (λ y there is. (network.boxes b y there).segments x s h);
    }
