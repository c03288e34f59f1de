-- A step of a route: its two segments differ, end at its box, and can be connected there.
use Rattle.std.proofs.Common.{◌≡◌, ℕ, ◌<◌, ◌≤◌, ◌≢◌, ◌||◌, true, subst, length, Option, Some, None, refl, ⊎_elim, arith}
use Rattle.std.specs.Prelude.{is_some}
use Rattle.std.proofs.lemmas.Bool.Decides.{nat_tests}
use Rattle.std.proofs.lemmas.Bool.{false≢true, or_cases}
use Rattle.rl_base.specs.declared.limits.TheConstants.{MAX_STEPS}
use Rattle.rl_base.specs.declared.kind.Kind.{Kind}
use Rattle.rl_base.specs.declared.kind.Kind.TheVariants.{Buffer, Joint, Point, Crossing}
use Rattle.rl_base.specs.declared.kind.Side.{Side}
use Rattle.rl_base.specs.declared.kind.Side.TheVariants.{Left, Right}
use Rattle.rl_base.specs.Kind.{arms_join}
use Rattle.rl_model.specs.declared.network.NetworkPlan.{NetworkPlan}
use Rattle.rl_model.specs.Network.{arm_of, kind_of, has_end, joined, connects, can_connect, steps_of, IsStep, IsNetwork}
use Rattle.rl_tables.specs.Kept.{can_join}
use Rattle.rl_tables.proofs.ListsOf.{there}

-- a train that is there has no more steps than a route may have
pub few_steps : (net : NetworkPlan) (t : ℕ) → IsNetwork net → t < length net.trains → steps_of net t ≤ MAX_STEPS
few_steps net t network within =
    let found = there net.trains t within in
    rw found.1 (network.trains t found.0 found.1).short

-- a step can be connected at its box
pub connected : (net : NetworkPlan) (t k s b s2 : ℕ) → IsNetwork net → t < length net.trains → IsStep net t k s b s2 → can_connect net b s s2 ≡ true
connected net t k s b s2 network within step =
    let found = there net.trains t within in
    (network.trains t found.0 found.1).fits k s b s2 step

-- both arms are there
joined_there : (kind : Kind) (side : Side) (o p : Option ℕ) → joined kind side o p ≡ true → (is_some o ≡ true) × (is_some p ≡ true)
joined_there kind side (Some x) (Some y) h = (refl, refl)
joined_there kind side (Some x) None h = absurd (false≢true h)
joined_there kind side None y h = absurd (false≢true h)

pub both_end : (net : NetworkPlan) (b s s2 : ℕ) → can_connect net b s s2 ≡ true → (has_end net s b ≡ true) × (has_end net s2 b ≡ true)
both_end net b s s2 h =
    ⊎_elim (joined_there (kind_of net b) Left (arm_of net s b) (arm_of net s2 b)) (joined_there (kind_of net b) Right (arm_of net s b) (arm_of net s2 b))
    (or_cases (connects net b s s2 Left) (connects net b s s2 Right) h)

-- their arms are joined by some side
pub arms_joined : (net : NetworkPlan) (b s s2 x y : ℕ) → arm_of net s b ≡ Some x → arm_of net s2 b ≡ Some y → can_connect net b s s2 ≡ true
    → can_join (kind_of net b) x y ≡ true
arms_joined net b s s2 x y at_x at_y h =
    subst (λ (o : Option ℕ). (joined (kind_of net b) Left (Some x) o || joined (kind_of net b) Right (Some x) o) ≡ true) at_y
    (subst (λ (o : Option ℕ). (joined (kind_of net b) Left o (arm_of net s2 b) || joined (kind_of net b) Right o (arm_of net s2 b)) ≡ true) at_x h)

-- arms that a box joins are two different arms
join_apart : (kind : Kind) (side : Side) (x y : ℕ) → arms_join kind x y side ≡ true → x ≢ y
join_apart Buffer side x y h = absurd (false≢true h)
join_apart Joint side x y h = λ e. grind (arith, nat_tests)
join_apart Point Left x y h = λ e. grind (arith, nat_tests)
join_apart Point Right x y h = λ e. grind (arith, nat_tests)
join_apart Crossing side x y h = λ e. grind (arith, nat_tests)

pub arms_apart : (kind : Kind) (x y : ℕ) → can_join kind x y ≡ true → x ≢ y
arms_apart kind x y h =
    ⊎_elim (join_apart kind Left x y) (join_apart kind Right x y) (or_cases (arms_join kind x y Left) (arms_join kind x y Right) h)
