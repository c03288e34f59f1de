-- Every step keeps the agreement on reservations.
use Rattle.std.proofs.Common.{◌≡◌, ℕ, ◌<◌, true, false, Some, None, arith}
use Rattle.std.proofs.lemmas.Bool.{or_left}
use Rattle.std.proofs.lemmas.Bool.Decides.{nat_tests}
use Rattle.rl_words.specs.declared.mail.Letter.{Letter}
use Rattle.rl_words.specs.declared.mail.MailWord.TheVariants.{Yes}
use Rattle.rl_train.specs.Jobs.{at}
use Rattle.rl_protocol.specs.Line.{Line, is_held_by, IsConsistent}
use Rattle.rl_protocol.specs.State.{State}
use Rattle.rl_protocol.specs.Minds.{heard, row_of, letter_of}
use Rattle.rl_protocol.specs.Steps.{Step, post, hear_yes, hear_no, go, quiet, take, grant, refuse, release, lock_now, lock_ask, lock_moved, unlock, say_yes}
use Rattle.rl_protocol.specs.Steps.{say_no, busy, throw, settle, enter, head, leave, tail, StepFits, next}
use Rattle.rl_protocol.specs.Held.{holds, held_after, job_holds}
use Rattle.rl_protocol.specs.Agreement.{AgreesOnAttempts}
use Rattle.rl_protocol.proofs.Known.{Known}
use Rattle.rl_protocol.proofs.Letters.{row_arms, letter_arm}
use Rattle.rl_protocol.proofs.JobHolds.{heard_holds, denied_holds, passed_holds}

-- with Yes the train's job says what its letter has changed
reserved_heard : (line : Line) (s : State) (t : ℕ) (l : Letter) (u c i : ℕ) → is_held_by u (s.resv c i) ≡ holds line s u c i → s.mail t ≡ Yes l
    → job_holds line t (heard line t (s.trains t)) c i ≡ held_after l.verb (at l.to l.x c i) (job_holds line t (s.trains t) c i)
    → is_held_by u ((next line s (hear_yes t l)).resv c i) ≡ holds line (next line s (hear_yes t l)) u c i
reserved_heard line s t l u c i old mail same = grind (arith, nat_tests)

pub reserved_kept : (line : Line) (tries : ℕ) (s : State) (step : Step) (u c i : ℕ) → IsConsistent line → ((t : ℕ) → AgreesOnAttempts line tries s t)
    → is_held_by u (s.resv c i) ≡ holds line s u c i → StepFits line s step → Known line s step
    → is_held_by u ((next line s step).resv c i) ≡ holds line (next line s step) u c i
reserved_kept line tries s (post t l) u c i laws attempts old fits known = grind (arith, nat_tests)
reserved_kept line tries s (hear_no t l w job) u c i laws attempts old fits known = grind (arith, nat_tests, denied_holds)
reserved_kept line tries s (go t) u c i laws attempts old fits known = grind (arith, nat_tests)
reserved_kept line tries s (quiet t) u c i laws attempts old fits known = grind (arith, nat_tests, passed_holds)
reserved_kept line tries s (take b t l) u c i laws attempts old fits known = grind (arith, nat_tests)
reserved_kept line tries s (grant b t l) u c i laws attempts old fits known = grind (arith, nat_tests)
reserved_kept line tries s (refuse b t l w) u c i laws attempts old fits known = grind (arith, nat_tests)
reserved_kept line tries s (release b t l) u c i laws attempts old fits known = grind (arith, nat_tests)
reserved_kept line tries s (lock_now b t l side) u c i laws attempts old fits known = grind (arith, nat_tests)
reserved_kept line tries s (lock_ask b t l side) u c i laws attempts old fits known = grind (arith, nat_tests)
reserved_kept line tries s (lock_moved b p) u c i laws attempts old fits known = grind (arith, nat_tests)
reserved_kept line tries s (unlock b t l side) u c i laws attempts old fits known = grind (arith, nat_tests)
reserved_kept line tries s (say_yes b t l) u c i laws attempts old fits known = grind (arith, nat_tests)
reserved_kept line tries s (say_no b t l w) u c i laws attempts old fits known = grind (arith, nat_tests)
reserved_kept line tries s (busy b t l p) u c i laws attempts old fits known = grind (arith, nat_tests)
reserved_kept line tries s (throw b p) u c i laws attempts old fits known = grind (arith, nat_tests)
reserved_kept line tries s (settle b p) u c i laws attempts old fits known = grind (arith, nat_tests)
reserved_kept line tries s (enter t k) u c i laws attempts old fits known = grind (arith, nat_tests)
reserved_kept line tries s (head t k) u c i laws attempts old fits known = grind (arith, nat_tests)
reserved_kept line tries s (leave t k) u c i laws attempts old fits known = grind (arith, nat_tests)
reserved_kept line tries s (tail t k) u c i laws attempts old fits known = grind (arith, nat_tests)
reserved_kept line tries s (hear_yes t l) u c i laws attempts old fits known =
    let on : (s.trains t).step < line.steps t = (attempts t).under_way (or_left (s.trains t).waits _ fits.0) in
    reserved_heard line s t l u c i old fits.2 (heard_holds line t c i (s.trains t) l laws on fits.1)

-- arms that aren't there stay free: a letter names one that is there
pub free_kept : (line : Line) (tries : ℕ) (s : State) (step : Step) (b x : ℕ) → IsConsistent line → ((t : ℕ) → AgreesOnAttempts line tries s t)
    → (line.has_arm b x ≡ false → s.resv b x ≡ None) → StepFits line s step → Known line s step → line.has_arm b x ≡ false → (next line s step).resv b x ≡ None
free_kept line tries s step b x laws attempts old fits known h =
    free_from line s step b x old fits known
    (λ t l waits is. letter_arm line (row_of line t (s.trains t)) (s.trains t).job l
    (row_arms line t (s.trains t).step laws ((attempts t).under_way (or_left (s.trains t).waits _ waits))) is) h
  where
    free_from : (line : Line) (s : State) (step : Step) (b x : ℕ) → (line.has_arm b x ≡ false → s.resv b x ≡ None) → StepFits line s step → Known line s step
        → ((t : ℕ) (l : Letter) → (s.trains t).waits ≡ true → letter_of line t (s.trains t) ≡ Some l → line.has_arm l.to.0 l.x.0 ≡ true)
        → line.has_arm b x ≡ false → (next line s step).resv b x ≡ None
    free_from line s step b x old fits known there h = grind (arith, nat_tests, there)
