-- The ends of a segment of a network: each is an arm of a box that names the segment, and they are at different boxes.
use Rattle.std.proofs.Common.{◌≡◌, ℕ, ◌<◌, ◌≢◌, ◌⊎◌, inl, inr, true, length, slice_get, Option, Some, None, refl, sym, ap, ◌∙◌, subst, ⊎_elim, arith}
use Rattle.std.specs.Prelude.{is_some, option_map}
use Rattle.std.proofs.lemmas.Bool.{cases_eq}
use Rattle.std.proofs.lemmas.Bool.Decides.{nat_tests}
use Rattle.std.proofs.lemmas.Option.{same_Some, option_and_then_some, slice_get_within}
use Rattle.rl_base.specs.declared.ids.BoxId.{BoxId}
use Rattle.rl_base.specs.declared.ids.Arm.{Arm}
use Rattle.rl_base.specs.Kind.{arms_of}
use Rattle.rl_model.specs.declared.network.SegmentEnd.{SegmentEnd}
use Rattle.rl_model.specs.declared.network.Segment.{Segment}
use Rattle.rl_model.specs.declared.network.NetworkPlan.{NetworkPlan}
use Rattle.rl_tables.specs.Tables.{IsOtherEnd}
use Rattle.rl_model.specs.Network.{arm_at, arm_of, kind_of, has_end, segment_at, IsEndOf, IsNetwork}

-- arm `arm` of box b is an arm of its kind, and names segment s
pub record IsEnd (net : NetworkPlan) (s b arm : ℕ) : Type 0 where
  pub segment : s < length net.segments
  pub box : b < length net.boxes
  pub among : arm < arms_of (kind_of net b)
  pub names : segment_at net b arm ≡ Some s

-- the arm at a box is that of one of the two ends
which_end : (g : Segment) (b x : ℕ) → arm_at b g ≡ Some x → ((g.low.at.0 ≡ b) × (g.low.arm.0 ≡ x)) ⊎ ((g.high.at.0 ≡ b) × (g.high.arm.0 ≡ x))
which_end g b x h = grind (arith, nat_tests)

end_from : (net : NetworkPlan) (s b x : ℕ) (e : SegmentEnd) → IsEndOf net s e → s < length net.segments → (e.at.0 ≡ b) × (e.arm.0 ≡ x) → IsEnd net s b x
end_from net s b x e is within at =
    subst (λ n. IsEnd net s n x) at.0
    (subst (λ m. IsEnd net s e.at.0 m) at.1 (record { segment = within; box = is.box; among = is.arm; names = is.segment }))

-- the arm of a segment at a box is an end of it
pub end_of : (net : NetworkPlan) (s b x : ℕ) → IsNetwork net → arm_of net s b ≡ Some x → IsEnd net s b x
end_of net s b x network h =
    option_and_then_some (arm_at b) (slice_get net.segments s) x h
    (λ g found at.
    let is = network.segments s g found in
    let within = slice_get_within net.segments s g found in
    ⊎_elim (λ low. end_from net s b x g.low is.low within low) (λ high. end_from net s b x g.high is.high within high) (which_end g b x at))

-- the two ends of a segment, seen from the one and the other
pub record AreEnds (net : NetworkPlan) (s low low_arm high high_arm : ℕ) : Type 0 where
  pub at_low : arm_of net s low ≡ Some low_arm
  pub at_high : arm_of net s high ≡ Some high_arm
  pub apart : low ≢ high
  pub only : (b : ℕ) → has_end net s b ≡ true → low ≢ b → high ≡ b

low_at : (g : Segment) → arm_at g.low.at.0 g ≡ Some g.low.arm.0
low_at g = grind (arith, nat_tests)

high_at : (g : Segment) → g.low.at.0 < g.high.at.0 → arm_at g.high.at.0 g ≡ Some g.high.arm.0
high_at g h = grind (arith, nat_tests)

only_at : (g : Segment) (b : ℕ) → is_some (arm_at b g) ≡ true → g.low.at.0 ≢ b → g.high.at.0 ≡ b
only_at g b h other = grind (arith, nat_tests)

pub are_ends : (net : NetworkPlan) (s : ℕ) (g : Segment) → IsNetwork net → slice_get net.segments s ≡ Some g
    → AreEnds net s g.low.at.0 g.low.arm.0 g.high.at.0 g.high.arm.0
are_ends net s g network found =
    let order = (network.segments s g found).order in
    record {
      at_low = rw found (low_at g);
      at_high = rw found (high_at g order);
      apart = λ e. omega arith;
      only = λ b h other. only_at g b (rw found at h) other;
    }

-- the end that isn't at b
pub other_of_high : (net : NetworkPlan) (s low low_arm high high_arm : ℕ) → AreEnds net s low low_arm high high_arm → (b : ℕ) → low ≡ b
    → IsOtherEnd net s b high high_arm
other_of_high net s low low_arm high high_arm ends b at = record { apart = λ e. ends.apart (at ∙ sym e); there = ends.at_high }

-- the segment with two ends that are given as numbers
pub ends_given : (net : NetworkPlan) (s : ℕ) (ends : (BoxId × Arm) × (BoxId × Arm)) → IsNetwork net
    → option_map (λ (g : Segment). ((g.low.at, g.low.arm), (g.high.at, g.high.arm))) (slice_get net.segments s) ≡ Some ends
    → AreEnds net s ends.0.0.0 ends.0.1.0 ends.1.0.0 ends.1.1.0
ends_given net s ends network h = from (slice_get net.segments s) refl h
  where
    from : (o : Option Segment) → slice_get net.segments s ≡ o → option_map (λ (g : Segment). ((g.low.at, g.low.arm), (g.high.at, g.high.arm))) o ≡ Some ends
        → AreEnds net s ends.0.0.0 ends.0.1.0 ends.1.0.0 ends.1.1.0
    from None is e = absurd (cc)
    from (Some g) is e =
        let same = same_Some ((g.low.at, g.low.arm), (g.high.at, g.high.arm)) ends e in
        subst (λ (p : (BoxId × Arm) × (BoxId × Arm)). AreEnds net s p.0.0.0 p.0.1.0 p.1.0.0 p.1.1.0) same (are_ends net s g network is)

-- a segment is at one of its two ends
at_end : (net : NetworkPlan) (s b x : ℕ) (g : Segment) → slice_get net.segments s ≡ Some g → arm_of net s b ≡ Some x → (g.low.at.0 ≡ b) ⊎ (g.high.at.0 ≡ b)
at_end net s b x g found at = ⊎_elim (λ low. inl low.0) (λ high. inr high.0) (which_end g b x (rw found at at))

-- three boxes are not at two places
no_third : (low high b c d : ℕ) → (low ≡ b) ⊎ (high ≡ b) → (low ≡ c) ⊎ (high ≡ c) → (low ≡ d) ⊎ (high ≡ d) → c ≢ b → d ≢ b → d ≢ c → ⊥
no_third low high b c d hb hc hd cb db dc = grind arith

-- a segment with arms at two boxes has none at a third
pub only_two : (net : NetworkPlan) (s b x c y d z : ℕ) → arm_of net s b ≡ Some x → arm_of net s c ≡ Some y → c ≢ b → arm_of net s d ≡ Some z
    → ((d ≡ b) × (z ≡ x)) ⊎ ((d ≡ c) × (z ≡ y))
only_two net s b x c y d z at_b at_c apart at_d =
    option_and_then_some (arm_at b) (slice_get net.segments s) x at_b
    (λ g found here.
    let end_b = at_end net s b x g found at_b in
    let end_c = at_end net s c y g found at_c in
    let end_d = at_end net s d z g found at_d in
    ⊎_elim
    (λ same. inl (same, same_Some z x (sym at_d ∙ ap (arm_of net s) same ∙ at_b)))
    (λ other.
    ⊎_elim
    (λ same. inr (same, same_Some z y (sym at_d ∙ ap (arm_of net s) same ∙ at_c)))
    (λ third. absurd (no_third g.low.at.0 g.high.at.0 b c d end_b end_c end_d apart other third))
    (cases_eq d c))
    (cases_eq d b))
