-- Every state of every run agrees.
use Rattle.std.proofs.Common.{◌≡◌, ℕ, false, List, [], ◌∷◌, Option, Some, None, refl, sym, ◌∙◌, arith}
use Rattle.std.proofs.lemmas.Bool.{false≢true}
use Rattle.std.proofs.lemmas.Bool.Decides.{nat_tests}
use Rattle.rl_base.specs.declared.ids.TrainId.{TrainId}
use Rattle.rl_protocol.specs.Line.{Line, is_held_by, IsConsistent}
use Rattle.rl_protocol.specs.State.{State, start}
use Rattle.rl_protocol.specs.Steps.{Step, StepFits, next}
use Rattle.rl_protocol.specs.Runs.{state_after, IsStepRun}
use Rattle.rl_protocol.specs.Agreement.{Agrees}
use Rattle.rl_protocol.proofs.Jobs.{starts_holding, starts_unlocked, starts_standing, starts_closed, starts_beginning, starts_named}
use Rattle.rl_protocol.proofs.Known.{Known, known}
use Rattle.rl_protocol.proofs.Mail.{mailboxes_kept}
use Rattle.rl_protocol.proofs.Answers.{answers_kept}
use Rattle.rl_protocol.proofs.Points.{waiting_kept, points_kept}
use Rattle.rl_protocol.proofs.Passage.{passage_kept}
use Rattle.rl_protocol.proofs.Attempts.{attempts_kept}
use Rattle.rl_protocol.proofs.Reservations.{reserved_kept, free_kept}
use Rattle.rl_protocol.proofs.LockHolds.{locked_kept}

-- what is known of a step that fits a state that agrees
pub known_of : (line : Line) (tries : ℕ) (s : State) (step : Step) → Agrees line tries s → StepFits line s step → Known line s step
known_of line tries s step old fits = known line s step old.mailboxes (λ t. (old.attempts t).ahead) old.locks fits

pub agrees_next : (line : Line) (tries : ℕ) (s : State) (step : Step) → IsConsistent line → Agrees line tries s → StepFits line s step
    → Agrees line tries (next line s step)
agrees_next line tries s step laws old fits =
    let known = known_of line tries s step old fits in
    record {
      reservations = record {
        exact = λ t b x. reserved_kept line tries s step t b x laws old.attempts (old.reservations.exact t b x) fits known;
        free = λ b x h. free_kept line tries s step b x laws old.attempts (old.reservations.free b x) fits known h;
      };
      locks = record {
        exact = λ t b x y. locked_kept line s step t b x y (old.locks.exact t b x y) fits known;
        waiting = λ b. waiting_kept line s step b (old.locks.waiting b) fits known;
        points = λ b p h. points_kept line s step b p (old.locks.points b p) fits h;
      };
      mailboxes = mailboxes_kept line s step old.mailboxes fits known;
      answers = answers_kept line s step old.answers fits;
      passage = λ t. passage_kept line s step t (old.passage t) fits known;
      attempts = λ t. attempts_kept line tries s step t laws (old.attempts t) fits known;
    }

-- a place at which someone holds at the start is an arm
first_free : (line : Line) (b x : ℕ) (o : Option TrainId) → IsConsistent line → ((t : ℕ) → is_held_by t o ≡ line.ends t 0 b x) → line.has_arm b x ≡ false
    → o ≡ None
first_free line b x None laws first h = refl
first_free line b x (Some u) laws first h = grind (arith, nat_tests, first u.0, laws.arms u.0 0 b x)

pub agrees_start : (line : Line) (tries : ℕ) → IsConsistent line → Agrees line tries (start line tries)
agrees_start line tries laws =
    record {
      reservations = record {
        exact = λ t b x. laws.first t b x ∙ sym (starts_holding _ _ _ _ b x);
        free = λ b x h. first_free line b x (line.first_holder b x) laws (λ t. laws.first t b x) h;
      };
      locks = record {
        exact = λ t b x y. sym (starts_unlocked _ b x y);
        waiting = λ b. refl;
        points = λ b p h. cc;
      };
      mailboxes = record {
        empty = λ t h. refl;
        letter = λ t l h k. absurd (false≢true h);
        taken = λ t l h. cc;
        serves = λ b t l h. cc;
        says = λ b t l a h. cc;
        waits = λ b p h. cc;
        serves_one = λ b t l p h k. cc;
        says_one = λ b t l a p h k. cc;
      };
      answers = record {
        other = λ b t u l h. cc;
        has = λ b t u l h. cc;
      };
      passage = λ t. record { stands = λ h. starts_standing line tries t; passing = λ h. absurd (false≢true h) };
      attempts = λ t. record {
        total = starts_closed tries;
        within = omega arith;
        under_way = λ h. absurd (false≢true (sym starts_beginning ∙ h));
        ahead = λ h. absurd (false≢true (sym starts_named ∙ h));
      };
    }

pub agrees : (line : Line) (tries : ℕ) (steps : List Step) → IsConsistent line → IsStepRun line tries steps → Agrees line tries (state_after line tries steps)
agrees line tries [] laws run = agrees_start line tries laws
agrees line tries (step ∷ steps) laws run = agrees_next line tries (state_after line tries steps) step laws (agrees line tries steps laws run.0) run.1
