-- A box never connects a segment with itself.
use Rattle.std.proofs.Common.{◌≡◌, ℕ, ◌≢◌, true, false, Option, Some, None, refl, sym, ◌∙◌, arith}
use Rattle.std.proofs.lemmas.Bool.{false≢true}
use Rattle.std.proofs.lemmas.Bool.Decides.{nat_tests}
use Rattle.rl_base.specs.Kind.{are_arms, arms_join}
use Rattle.rl_base.specs.declared.kind.Kind.{Kind}
use Rattle.rl_base.specs.declared.kind.Kind.TheVariants.{Buffer, Joint, Point, Crossing}
use Rattle.rl_base.specs.declared.kind.Side.{Side}
use Rattle.rl_base.specs.declared.kind.Side.TheVariants.{Left, Right}
use Rattle.rl_model.specs.declared.moves.Points.{Points}
use Rattle.rl_model.specs.declared.moves.Points.TheVariants as points
use Rattle.rl_model.specs.declared.network.NetworkPlan.{NetworkPlan}
use Rattle.rl_model.specs.Network.{joined, connects, arm_of, kind_of}
use Rattle.rl_model.specs.World.{points_connect}

are_arms_0_1 : (x : ℕ) → are_arms x x 0 1 ≡ false
are_arms_0_1 x = grind (arith, nat_tests)

are_arms_0_2 : (x : ℕ) → are_arms x x 0 2 ≡ false
are_arms_0_2 x = grind (arith, nat_tests)

are_arms_2_3 : (x : ℕ) → are_arms x x 2 3 ≡ false
are_arms_2_3 x = grind (arith, nat_tests)

arm_alone : (kind : Kind) (x : ℕ) (side : Side) → arms_join kind x x side ≡ false
arm_alone Buffer x side = refl
arm_alone Joint x side = are_arms_0_1 x
arm_alone Point x Left = are_arms_0_1 x
arm_alone Point x Right = are_arms_0_2 x
arm_alone Crossing x side = rw (are_arms_0_1 x, are_arms_2_3 x) refl

joined_alone : (kind : Kind) (side : Side) (o : Option ℕ) → joined kind side o o ≡ false
joined_alone kind side None = refl
joined_alone kind side (Some x) = arm_alone kind x side

connects_alone : (net : NetworkPlan) (b s : ℕ) (side : Side) → connects net b s s side ≡ false
connects_alone net b s side = joined_alone (kind_of net b) side (arm_of net s b)

points_connect_alone : (net : NetworkPlan) (b s : ℕ) (stand : Points) → points_connect net b s s stand ≡ false
points_connect_alone net b s points.Left = connects_alone net b s Left
points_connect_alone net b s points.Right = connects_alone net b s Right
points_connect_alone net b s points.Moving = refl

-- points that connect two segments connect different ones
pub points_connect_apart : (net : NetworkPlan) (b s s2 : ℕ) (stand : Points) → points_connect net b s s2 stand ≡ true → s ≢ s2
points_connect_apart net b s s2 stand is =
    λ same. let itself = rw (← same) at is in false≢true (sym (points_connect_alone net b s stand) ∙ itself)
