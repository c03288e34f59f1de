-- Every step keeps the agreement on the passage of each train.
use Rattle.std.proofs.Common.{◌≡◌, ℕ, true, false, arith}
use Rattle.std.proofs.lemmas.Bool.Decides.{nat_tests}
use Rattle.rl_protocol.specs.Line.{Line}
use Rattle.rl_protocol.specs.State.{State}
use Rattle.rl_protocol.specs.Steps.{Step, StepFits, next}
use Rattle.rl_protocol.specs.Agreement.{is_passing, place_of, IsStanding, IsPassing, AgreesOnPassage}
use Rattle.rl_protocol.proofs.Known.{Known}
use Rattle.rl_protocol.proofs.Jobs.{place_heard, place_denied, place_passes, place_passed}

stands_kept : (line : Line) (s : State) (step : Step) (t : ℕ) → AgreesOnPassage s t → StepFits line s step → Known line s step
    → is_passing ((next line s step).trains t) ≡ false → IsStanding (next line s step) t (place_of ((next line s step).trains t))
stands_kept line s step t old fits known h = grind (arith, nat_tests, place_heard, place_denied, place_passes, place_passed)

passing_kept : (line : Line) (s : State) (step : Step) (t : ℕ) → AgreesOnPassage s t → StepFits line s step → Known line s step
    → is_passing ((next line s step).trains t) ≡ true → IsPassing (next line s step) t ((next line s step).trains t).step
passing_kept line s step t old fits known h = grind (arith, nat_tests, place_passes)

pub passage_kept : (line : Line) (s : State) (step : Step) (t : ℕ) → AgreesOnPassage s t → StepFits line s step → Known line s step
    → AgreesOnPassage (next line s step) t
passage_kept line s step t old fits known =
    record { stands = stands_kept line s step t old fits known; passing = passing_kept line s step t old fits known }
