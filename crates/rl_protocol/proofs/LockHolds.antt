-- Every step keeps the agreement on locks.
use Rattle.std.proofs.Common.{◌≡◌, ℕ, ◌==◌, ◌&&◌, arith}
use Rattle.std.proofs.lemmas.Bool.Decides.{nat_tests}
use Rattle.rl_words.specs.declared.mail.Letter.{Letter}
use Rattle.rl_words.specs.declared.mail.MailWord.TheVariants.{Yes}
use Rattle.rl_train.specs.Jobs.{at}
use Rattle.rl_protocol.specs.Line.{Line}
use Rattle.rl_protocol.specs.State.{State}
use Rattle.rl_protocol.specs.Minds.{heard}
use Rattle.rl_protocol.specs.Steps.{Step, post, hear_yes, hear_no, go, quiet, take, grant, refuse, release, lock_now, lock_ask, lock_moved, unlock, say_yes}
use Rattle.rl_protocol.specs.Steps.{say_no, busy, throw, settle, enter, head, leave, tail, StepFits, next}
use Rattle.rl_protocol.specs.Held.{has_lock, locked_after, job_locks}
use Rattle.rl_protocol.specs.Agreement.{is_locked_by}
use Rattle.rl_protocol.proofs.Known.{Known}
use Rattle.rl_protocol.proofs.JobHolds.{heard_locks, denied_locks, passed_locks}

-- with Yes the train's job says what its letter has changed
locked_heard : (line : Line) (s : State) (t : ℕ) (l : Letter) (u c i j : ℕ) → is_locked_by (s.lock c) u i j ≡ has_lock line s u c i j → s.mail t ≡ Yes l
    → job_locks line t (heard line t (s.trains t)) c i j ≡ locked_after l.verb (at l.to l.x c i && l.y.0 == j) (job_locks line t (s.trains t) c i j)
    → is_locked_by ((next line s (hear_yes t l)).lock c) u i j ≡ has_lock line (next line s (hear_yes t l)) u c i j
locked_heard line s t l u c i j old mail same = grind (arith, nat_tests)

pub locked_kept : (line : Line) (s : State) (step : Step) (u c i j : ℕ) → is_locked_by (s.lock c) u i j ≡ has_lock line s u c i j → StepFits line s step
    → Known line s step → is_locked_by ((next line s step).lock c) u i j ≡ has_lock line (next line s step) u c i j
locked_kept line s (post t l) u c i j old fits known = grind (arith, nat_tests)
locked_kept line s (hear_yes t l) u c i j old fits known = locked_heard line s t l u c i j old fits.2 (heard_locks line t c i j (s.trains t) l fits.1)
locked_kept line s (hear_no t l w job) u c i j old fits known = grind (arith, nat_tests, denied_locks)
locked_kept line s (go t) u c i j old fits known = grind (arith, nat_tests)
locked_kept line s (quiet t) u c i j old fits known = grind (arith, nat_tests, passed_locks)
locked_kept line s (take b t l) u c i j old fits known = grind (arith, nat_tests)
locked_kept line s (grant b t l) u c i j old fits known = grind (arith, nat_tests)
locked_kept line s (refuse b t l w) u c i j old fits known = grind (arith, nat_tests)
locked_kept line s (release b t l) u c i j old fits known = grind (arith, nat_tests)
locked_kept line s (lock_now b t l side) u c i j old fits known = grind (arith, nat_tests)
locked_kept line s (lock_ask b t l side) u c i j old fits known = grind (arith, nat_tests)
locked_kept line s (lock_moved b p) u c i j old fits known = grind (arith, nat_tests)
locked_kept line s (unlock b t l side) u c i j old fits known = grind (arith, nat_tests)
locked_kept line s (say_yes b t l) u c i j old fits known = grind (arith, nat_tests)
locked_kept line s (say_no b t l w) u c i j old fits known = grind (arith, nat_tests)
locked_kept line s (busy b t l p) u c i j old fits known = grind (arith, nat_tests)
locked_kept line s (throw b p) u c i j old fits known = grind (arith, nat_tests)
locked_kept line s (settle b p) u c i j old fits known = grind (arith, nat_tests)
locked_kept line s (enter t k) u c i j old fits known = grind (arith, nat_tests)
locked_kept line s (head t k) u c i j old fits known = grind (arith, nat_tests)
locked_kept line s (leave t k) u c i j old fits known = grind (arith, nat_tests)
locked_kept line s (tail t k) u c i j old fits known = grind (arith, nat_tests)
