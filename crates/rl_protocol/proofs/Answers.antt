-- Every step keeps the agreement on answers.
use Rattle.std.proofs.Common.{◌≡◌, ◌≢◌, ℕ, arith}
use Rattle.std.proofs.lemmas.Bool.Decides.{nat_tests}
use Rattle.rl_base.specs.declared.ids.TrainId.{TrainId}
use Rattle.rl_words.specs.declared.mail.Letter.{Letter}
use Rattle.rl_box.specs.declared.mind.Answer.TheVariants as answers
use Rattle.rl_box.specs.declared.mind.Work.TheVariants.{Say}
use Rattle.rl_protocol.specs.Line.{Line}
use Rattle.rl_protocol.specs.State.{State}
use Rattle.rl_protocol.specs.Steps.{Step, StepFits, next}
use Rattle.rl_protocol.specs.Agreement.{AgreesOnAnswers, HasWhatIsAsked}

other_kept : (line : Line) (s : State) (step : Step) (b : ℕ) (t u : TrainId) (l : Letter) → ((s.boxes b).work ≡ Say t l (answers.No u) → u.0 ≢ t.0)
    → StepFits line s step → ((next line s step).boxes b).work ≡ Say t l (answers.No u) → u.0 ≢ t.0
other_kept line s step b t u l old fits h = λ e. grind (arith, nat_tests)

has_kept : (line : Line) (s : State) (step : Step) (b : ℕ) (t u : TrainId) (l : Letter)
    → ((s.boxes b).work ≡ Say t l (answers.No u) → HasWhatIsAsked s b l u l.verb) → StepFits line s step
    → ((next line s step).boxes b).work ≡ Say t l (answers.No u) → HasWhatIsAsked (next line s step) b l u l.verb
has_kept line s step b t u l old fits h = grind (arith, nat_tests)

pub answers_kept : (line : Line) (s : State) (step : Step) → AgreesOnAnswers s → StepFits line s step → AgreesOnAnswers (next line s step)
answers_kept line s step old fits =
    record {
      other = λ b t u l h. other_kept line s step b t u l (old.other b t u l) fits h;
      has = λ b t u l h. has_kept line s step b t u l (old.has b t u l) fits h;
    }
