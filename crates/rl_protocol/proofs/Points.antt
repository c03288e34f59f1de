-- Every step keeps what lock words and boxes say of points.
use Rattle.std.proofs.Common.{◌≡◌, ℕ, true, false, Some, refl, sym, ◌∙◌, arith}
use Rattle.std.proofs.lemmas.Bool.{false≢true}
use Rattle.std.proofs.lemmas.Bool.Decides.{nat_tests}
use Rattle.rl_base.specs.declared.kind.Kind.{Kind}
use Rattle.rl_base.specs.declared.kind.Kind.TheVariants.{Buffer, Joint, Point, Crossing}
use Rattle.rl_base.specs.declared.kind.Side.{Side}
use Rattle.rl_base.specs.Kind.{arms_join}
use Rattle.rl_words.specs.declared.lock.Path.{Path}
use Rattle.rl_protocol.specs.Line.{Line}
use Rattle.rl_protocol.specs.State.{State}
use Rattle.rl_box.specs.Steps.{other_side}
use Rattle.rl_protocol.specs.Steps.{Step, StepFits, next}
use Rattle.rl_protocol.specs.Agreement.{path_in_setting}
use Rattle.rl_protocol.proofs.Known.{Known}

-- only a point connects at one side what it doesn't connect at the other
pub point_turns : (kind : Kind) (x y : ℕ) (side : Side) → arms_join kind x y side ≡ false → arms_join kind x y (other_side side) ≡ true → kind ≡ Point
point_turns Buffer x y side h k = absurd (false≢true k)
point_turns Joint x y side h k = absurd (false≢true (sym h ∙ k))
point_turns Point x y side h k = refl
point_turns Crossing x y side h k = absurd (false≢true (sym h ∙ k))

pub waiting_kept : (line : Line) (s : State) (step : Step) (b : ℕ) → (s.boxes b).waiting ≡ path_in_setting (s.lock b) → StepFits line s step → Known line s step
    → ((next line s step).boxes b).waiting ≡ path_in_setting ((next line s step).lock b)
waiting_kept line s step b old fits known = grind (arith, nat_tests)

pub points_kept : (line : Line) (s : State) (step : Step) (b : ℕ) (p : Path) → ((s.boxes b).waiting ≡ Some p → line.kind b ≡ Point) → StepFits line s step
    → ((next line s step).boxes b).waiting ≡ Some p → line.kind b ≡ Point
points_kept line s step b p old fits h = grind (arith, nat_tests, point_turns)
