-- Sides and points: at which side a box connects a path, and how its points stand then.
use Rattle.std.proofs.Common.{◌≡◌, ◌≢◌, ℕ, Bool, true, false, cond, ◌||◌, Some, None, refl, arith}
use Rattle.std.specs.Prelude.{unwrap_or}
use Rattle.std.proofs.lemmas.Bool.{false≢true}
use Rattle.std.proofs.lemmas.Bool.Decides.{nat_tests}
use Rattle.rl_base.specs.declared.kind.Kind.{Kind}
use Rattle.rl_base.specs.declared.kind.Kind.TheVariants.{Buffer, Joint, Point, Crossing}
use Rattle.rl_base.specs.declared.kind.Side.{Side}
use Rattle.rl_base.specs.declared.kind.Side.TheVariants.{Left, Right}
use Rattle.rl_base.specs.Kind.{arms_join, joining_side}
use Rattle.rl_tables.specs.Kept.{can_join}
use Rattle.rl_model.specs.declared.moves.Points.TheVariants as points
use Rattle.rl_model.specs.World.{points_at}
use Rattle.rl_box.specs.Steps.{other_side}
use Rattle.rl_protocol.specs.Worlds.{standing}

-- a box connects two different arms
pub join_apart : (kind : Kind) (x y : ℕ) → can_join kind x y ≡ true → x ≢ y
join_apart Buffer x y h = λ e. absurd (false≢true h)
join_apart Joint x y h = λ e. grind (arith, nat_tests)
join_apart Point x y h = λ e. grind (arith, nat_tests)
join_apart Crossing x y h = λ e. grind (arith, nat_tests)

pub can_at : (kind : Kind) (x y : ℕ) (side : Side) → arms_join kind x y side ≡ true → can_join kind x y ≡ true
can_at kind x y Left h = grind arith
can_at kind x y Right h = grind arith

-- where the box connects the arms as it stands, its points stay
pub stands_now : (kind : Kind) (x y : ℕ) (side : Side) → arms_join kind x y side ≡ true
    → standing kind (unwrap_or (joining_side kind x y) Left) ≡ standing kind side
stands_now Buffer x y side h = refl
stands_now Joint x y side h = refl
stands_now Point x y Left h = grind (arith, nat_tests)
stands_now Point x y Right h = grind (arith, nat_tests)
stands_now Crossing x y side h = refl

-- where it asks for the points they stand at the other side
pub stands_asked : (kind : Kind) (x y : ℕ) (side : Side) → arms_join kind x y side ≡ false → arms_join kind x y (other_side side) ≡ true
    → standing kind (other_side (unwrap_or (joining_side kind x y) Left)) ≡ standing kind side
stands_asked Buffer x y side h k = refl
stands_asked Joint x y side h k = refl
stands_asked Point x y Left h k = grind (arith, nat_tests)
stands_asked Point x y Right h k = grind (arith, nat_tests)
stands_asked Crossing x y side h k = refl

-- a box that can connect the arms has a side for them
pub has_side : (kind : Kind) (x y : ℕ) → can_join kind x y ≡ true → (side : Side) × (joining_side kind x y ≡ Some side) × (arms_join kind x y side ≡ true)
has_side kind x y h = of (arms_join kind x y Left) (arms_join kind x y Right) refl refl h
  where
    of : (p q : Bool) → arms_join kind x y Left ≡ p → arms_join kind x y Right ≡ q → (p || q) ≡ true
        → (side : Side) × (cond p (Some Left) (cond q (Some Right) None) ≡ Some side) × (arms_join kind x y side ≡ true)
    of true q e f h = (Left, refl, e)
    of false true e f h = (Right, refl, f)
    of false false e f h = absurd (false≢true h)

-- a point connects the arms at one side alone
pub one_side : (x y : ℕ) (side : Side) → arms_join Point x y side ≡ true → arms_join Point x y (other_side side) ≡ false
one_side x y Left h = grind (arith, nat_tests)
one_side x y Right h = grind (arith, nat_tests)

pub stands_still : (side : Side) → points_at side ≢ points.Moving
stands_still Left = λ e. cc
stands_still Right = λ e. cc
