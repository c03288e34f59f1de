-- Neighbours: being one goes both ways, both are segments of the network, the box is at an end of each, and each is the
-- segment at one of its arms.
use Rattle.std.proofs.Common.{◌≡◌, ℕ, ◌<◌, Bool, true, false, eqb, ◌||◌, ◌&&◌, length, slice_get, Option, Some, None, ◌⊎◌, inl, inr, refl, sym, ap₂, subst, arith, IsTrue}
use Rattle.std.proofs.lemmas.Bool.{false≢true, or_cases}
use Rattle.std.proofs.lemmas.Option.{option_and_then_some}
use Rattle.std.specs.Option.{option_map}
use Rattle.rl_base.specs.declared.ids.SegId.{SegId}
use Rattle.rl_model.specs.declared.network.SwitchBox.{SwitchBox}
use Rattle.rl_base.specs.declared.kind.Kind.{Kind}
use Rattle.rl_base.specs.declared.kind.Kind.TheVariants.{Buffer, Joint, Point, Crossing}
use Rattle.rl_base.specs.declared.kind.Side.{Side}
use Rattle.rl_base.specs.declared.kind.Side.TheVariants.{Left, Right}
use Rattle.rl_base.specs.Kind.{arms_of, are_arms, arms_join}
use Rattle.rl_model.specs.declared.network.NetworkPlan.{NetworkPlan}
use Rattle.rl_model.specs.declared.network.Segment.{Segment}
use Rattle.rl_model.specs.Network.{IsNetwork, arm_of, kind_of, joined, connects, segment_at}
use Rattle.rl_plan.proofs.Arms.{IsAtArm-from_arm, arm_at_cases, segment_there, arms_few}
use Rattle.rl_plan.specs.Walks.{AreNeighbours}

-- two arms in either order
are_arms-swap : (x y f g : ℕ) → are_arms x y f g ≡ are_arms y x f g
are_arms-swap x y f g = swap (eqb x f) (eqb y g) (eqb x g) (eqb y f)
  where
    swap : (p q r s : Bool) → ((p && q) || (r && s)) ≡ ((s && r) || (q && p))
    swap true true r s = grind arith
    swap true false r s = grind arith
    swap false q true true = grind arith
    swap false q true false = grind arith
    swap false q false s = grind arith

-- a box joins two arms in either order
arms_join-swap : (kind : Kind) (x y : ℕ) (side : Side) → arms_join kind x y side ≡ arms_join kind y x side
arms_join-swap Buffer x y side = refl
arms_join-swap Joint x y side = are_arms-swap x y 0 1
arms_join-swap Point x y Left = are_arms-swap x y 0 1
arms_join-swap Point x y Right = are_arms-swap x y 0 2
arms_join-swap Crossing x y side = ap₂ (λ (p q : Bool). p || q) (are_arms-swap x y 0 1) (are_arms-swap x y 2 3)

joined-swap : (kind : Kind) (side : Side) (p q : Option ℕ) → joined kind side p q ≡ joined kind side q p
joined-swap kind side (Some x) (Some y) = arms_join-swap kind x y side
joined-swap kind side (Some x) None = refl
joined-swap kind side None (Some y) = refl
joined-swap kind side None None = refl

-- neighbours are so both ways
pub neighbours-swap : (net : NetworkPlan) (b s r : ℕ) → AreNeighbours net b s r → AreNeighbours net b r s
neighbours-swap net b s r h =
    subst IsTrue
    (ap₂ (λ (p q : Bool). p || q) (joined-swap (kind_of net b) Left (arm_of net s b) (arm_of net r b))
    (joined-swap (kind_of net b) Right (arm_of net s b) (arm_of net r b)))
    h

-- where a box joins two arms, both are there
joined_some : (kind : Kind) (side : Side) (p q : Option ℕ) → joined kind side p q ≡ true → ((x : ℕ) × (p ≡ Some x)) × ((y : ℕ) × (q ≡ Some y))
joined_some kind side (Some x) (Some y) h = ((x, refl), (y, refl))
joined_some kind side (Some x) None h = absurd (false≢true h)
joined_some kind side None (Some y) h = absurd (false≢true h)
joined_some kind side None None h = absurd (false≢true h)

-- neighbours have arms at the box
pub neighbours_arms : (net : NetworkPlan) (b s r : ℕ) → AreNeighbours net b s r → ((x : ℕ) × (arm_of net s b ≡ Some x)) × ((y : ℕ) × (arm_of net r b ≡ Some y))
neighbours_arms net b s r h =
    elim (or_cases (connects net b s r Left) (connects net b s r Right) h) [
      | inl left ↦ joined_some (kind_of net b) Left (arm_of net s b) (arm_of net r b) left
      | inr right ↦ joined_some (kind_of net b) Right (arm_of net s b) (arm_of net r b) right
    ]

-- neighbours are segments of the network, and the box is one of it
pub neighbour_there : (net : NetworkPlan) (b s r : ℕ) → AreNeighbours net b s r → r < length net.segments
neighbour_there net b s r h = let arm = (neighbours_arms net b s r h).1 in segment_there net r b arm.0 arm.1

-- the neighbour is the segment at one of the first four arms of the box
pub neighbour_arm : (net : NetworkPlan) (b s r : ℕ) → IsNetwork net → AreNeighbours net b s r → (y : ℕ) × (y < 4) × (segment_at net b y ≡ Some r)
neighbour_arm net b s r network h =
    let arm = (neighbours_arms net b s r h).1 in
    let at = IsAtArm-from_arm net r b arm.0 network arm.1 in
    let few = arms_few (kind_of net b) in
    let low : arm.0 < arms_of (kind_of net b) = at.arm in
    (arm.0, omega arith, at.segment)

-- the box is at one of the two ends of the segment
pub neighbour_end : (net : NetworkPlan) (b s r : ℕ) (g : Segment) → slice_get net.segments s ≡ Some g → AreNeighbours net b s r
    → (b ≡ g.low.at.0) ⊎ (b ≡ g.high.at.0)
neighbour_end net b s r g there h =
    let arm = (neighbours_arms net b s r h).0 in
    elim (arm_at_cases b arm.0 g (rw there at arm.1)) [
      | inl low ↦ inl (sym low.0)
      | inr high ↦ inr (sym high.0)
    ]

-- the segment at an arm of a box is one of the network
pub arm_there : (net : NetworkPlan) (b i s : ℕ) → IsNetwork net → segment_at net b i ≡ Some s → s < length net.segments
arm_there net b i s network is =
    option_and_then_some (λ (x : SwitchBox). option_map (λ (r : SegId). r.0) (slice_get x.arms i)) (slice_get net.boxes b) s is
    (λ x there at. segment_there net s b i ((network.boxes b x there).segments i s is))

-- the box between neighbours is one of the network
pub between_there : (net : NetworkPlan) (b s r : ℕ) → IsNetwork net → AreNeighbours net b s r → b < length net.boxes
between_there net b s r network h = let arm = (neighbours_arms net b s r h).0 in (IsAtArm-from_arm net s b arm.0 network arm.1).box
