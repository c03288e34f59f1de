-- What a train holds and has locked in a state: what is of its job, and what its letter has changed of that already.
use Rattle.std.specs.Prelude.{ℕ, ◌+◌, ◌==◌, Bool, false, not, ◌&&◌, ◌||◌, if◌then◌else◌, Option, Some, None}
use Rattle.rl_base.specs.declared.job.Verb.{Verb}
use Rattle.rl_base.specs.declared.job.Verb.TheVariants as verbs
use Rattle.rl_words.specs.declared.lock.Path.{Path}
use Rattle.rl_words.specs.declared.mail.Letter.{Letter}
use Rattle.rl_words.specs.declared.mail.MailWord.{MailWord}
use Rattle.rl_words.specs.declared.mail.MailWord.TheVariants.{Empty, Ask, Taken, Yes, No}
use Rattle.rl_train.specs.declared.mind.TrainMind.{TrainMind}
use Rattle.rl_box.specs.declared.mind.Answer.TheVariants as answers
use Rattle.rl_box.specs.declared.mind.BoxMind.{BoxMind}
use Rattle.rl_box.specs.declared.mind.Work.{Work}
use Rattle.rl_box.specs.declared.mind.Work.TheVariants.{Ready, Serve, Say}
use Rattle.rl_protocol.specs.Line.{Line}
use Rattle.rl_train.specs.Jobs.{at, holds_at, locks_at}
use Rattle.rl_protocol.specs.State.{State}
use Rattle.rl_protocol.specs.Minds.{row_of}

-- a box has done what train t asked for where it is about to answer Yes to it, and where it has set its lock and waits
-- for the points
abbrev pub says_yes_to : ℕ → Work → Bool
says_yes_to t (Say u l answers.Yes) = u.0 == t
says_yes_to t (Say u l (answers.No v)) = false
says_yes_to t (Serve u l) = false
says_yes_to t Ready = false

abbrev pub is_path_of : ℕ → Option Path → Bool
is_path_of t None = false
is_path_of t (Some p) = p.train.0 == t

abbrev pub has_done_for : ℕ → BoxMind → Bool
has_done_for t m = says_yes_to t m.work || is_path_of t m.waiting

-- the letter in a mailbox, if it is done: it is answered Yes, or taken by a box that has done it
abbrev pub done_in : (is_done : ℕ → Bool) → MailWord → Option Letter
done_in is_done Empty = None
done_in is_done (Ask l) = None
done_in is_done (Taken l) = if is_done l.to.0 then Some l else None
done_in is_done (Yes l) = Some l
done_in is_done (No l u) = None

abbrev pub done_letter : State → ℕ → Option Letter
done_letter s t = done_in (λ b. has_done_for t (s.boxes b)) (s.mail t)

-- a reservation that is done adds its place to those held, and a release that is done takes it
abbrev pub held_after : Verb → (there held : Bool) → Bool
held_after verbs.Reserve there held = held || there
held_after verbs.Release there held = held && not there
held_after verbs.Lock there held = held
held_after verbs.Unlock there held = held

-- a lock that is done adds its path to those locked, and an unlock that is done takes it
abbrev pub locked_after : Verb → (there locked : Bool) → Bool
locked_after verbs.Reserve there locked = locked
locked_after verbs.Release there locked = locked
locked_after verbs.Lock there locked = locked || there
locked_after verbs.Unlock there locked = locked && not there

-- the same of a letter that may be done
abbrev pub held_with : Option Letter → (b x : ℕ) → Bool → Bool
held_with None b x held = held
held_with (Some l) b x held = held_after l.verb (at l.to l.x b x) held

abbrev pub locked_with : Option Letter → (b x y : ℕ) → Bool → Bool
locked_with None b x y locked = locked
locked_with (Some l) b x y locked = locked_after l.verb (at l.to l.x b x && l.y.0 == y) locked

-- what a train with the mind holds of its job: at arm x of box b, and the lock of box b from arm x to arm y
abbrev pub job_holds : Line → ℕ → TrainMind → (b x : ℕ) → Bool
job_holds line t m b x =
    holds_at m.job (row_of line t m) (line.ends t m.step b x) (line.ends t (m.step + 1) b x)
    (line.ends t (m.step + 2) b x) b x

abbrev pub job_locks : Line → ℕ → TrainMind → (b x y : ℕ) → Bool
job_locks line t m b x y = locks_at m.job (row_of line t m) b x y

-- train t holds arm x of box b
abbrev pub holds : Line → State → ℕ → (b x : ℕ) → Bool
holds line s t b x = held_with (done_letter s t) b x (job_holds line t (s.trains t) b x)

-- train t has the lock of box b for the path from arm x to arm y
abbrev pub has_lock : Line → State → ℕ → (b x y : ℕ) → Bool
has_lock line s t b x y = locked_with (done_letter s t) b x y (job_locks line t (s.trains t) b x y)
