-- Each step adds its weight to the rank of the train that it is about, or opens an attempt.
use Rattle.std.proofs.Common.{◌≡◌, ℕ, ◌+◌, ◌-◌, ◌≤◌, ◌==◌, Bool, true, false, cond, if◌then◌else◌, ◌&&◌, refl, sym, ap, ◌∙◌, inl, inr, ◌⊎◌, ⊎_elim, arith}
use Rattle.std.proofs.lemmas.Bool.{cases_Bool, false≢true}
use Rattle.std.proofs.lemmas.Bool.Decides.{nat_tests}
use Rattle.rl_base.specs.declared.ids.TrainId.{TrainId}
use Rattle.rl_base.specs.declared.job.Job.{Job}
use Rattle.rl_base.specs.declared.job.Job.TheVariants as jobs
use Rattle.rl_words.specs.declared.mail.Letter.{Letter}
use Rattle.rl_words.specs.declared.mail.MailWord.{MailWord}
use Rattle.rl_words.specs.declared.mail.MailWord.TheVariants.{Empty, Ask, Taken, Yes, No}
use Rattle.rl_tables.specs.declared.table.StepRow.{StepRow}
use Rattle.rl_protocol.specs.Line.{Line}
use Rattle.rl_train.specs.Jobs.{reopens, is_near, is_pass}
use Rattle.rl_protocol.specs.State.{State}
use Rattle.rl_protocol.specs.Minds.{row_of, letter_of_path}
use Rattle.rl_protocol.specs.Steps.{Step, post, hear_yes, hear_no, go, quiet, take, grant, refuse, release, lock_now, lock_ask, lock_moved, unlock, say_yes}
use Rattle.rl_protocol.specs.Steps.{say_no, busy, throw, settle, enter, head, leave, tail, StepFits, next}
use Rattle.rl_protocol.specs.Agreement.{Agrees, AgreesOnPassage, Carries}
use Rattle.rl_protocol.proofs.Known.{Known}
use Rattle.rl_protocol.proofs.Jobs.{begins_passes, letter_there}
use Rattle.rl_protocol.proofs.Ranks.{Weights, weight, about, attempt_weight, rank, rank_heard, rank_denied, rank_passed, job_rank, ready_rank, mail_rank}
use Rattle.rl_protocol.proofs.Ranks.{run_rank, box_rank, letter_weight, verb_weight, rank_ready, rank_asking, rank_passing, run_bounded, box_bounded}

-- a post with which an attempt of train t begins, or a Yes with which its next one does
abbrev pub opens : Line → State → ℕ → Step → Bool
opens line s t (post u l) = u == t && is_near (s.trains t).job
opens line s t (hear_yes u l) = u == t && reopens (row_of line t (s.trains t)) ((s.trains t).left == 0) (s.trains t).job
opens line s t _ = false

-- what a step weighs for train t
abbrev pub weight_for : Weights → ℕ → Step → ℕ
weight_for w t step = if about step == t then weight w step else 0

Raises : Weights → Line → State → ℕ → Step → Type 0
Raises w line s t step = (((next line s step).trains t).left ≡ (s.trains t).left) × (rank w s t + weight_for w t step ≤ rank w (next line s step) t)

raised : (w : Weights) (line : Line) (s : State) (t : ℕ) (step : Step) → AgreesOnPassage s t → StepFits line s step → Known line s step → opens line s t step ≡ false
    → Raises w line s t step
unfolding Raises
raised w line s t (post u l) passage fits known h = (grind (arith, nat_tests), grind (arith, nat_tests))
raised w line s t (hear_yes u l) passage fits known h = (grind (arith, nat_tests), grind (arith, nat_tests, rank_heard))
raised w line s t (hear_no u l v job) passage fits known h = (grind (arith, nat_tests), grind (arith, nat_tests, rank_denied))
raised w line s t (go u) passage fits known h = (grind (arith, nat_tests), grind (arith, nat_tests, begins_passes))
raised w line s t (quiet u) passage fits known h = (grind (arith, nat_tests), grind (arith, nat_tests, rank_passed))
raised w line s t (take b u l) passage fits known h = (grind (arith, nat_tests), grind (arith, nat_tests))
raised w line s t (grant b u l) passage fits known h = (grind (arith, nat_tests), grind (arith, nat_tests))
raised w line s t (refuse b u l v) passage fits known h = (grind (arith, nat_tests), grind (arith, nat_tests))
raised w line s t (release b u l) passage fits known h = (grind (arith, nat_tests), grind (arith, nat_tests))
raised w line s t (lock_now b u l side) passage fits known h = (grind (arith, nat_tests), grind (arith, nat_tests))
raised w line s t (lock_ask b u l side) passage fits known h = (grind (arith, nat_tests), grind (arith, nat_tests))
raised w line s t (lock_moved b p) passage fits known h = (grind (arith, nat_tests), grind (arith, nat_tests))
raised w line s t (unlock b u l side) passage fits known h = (grind (arith, nat_tests), grind (arith, nat_tests))
raised w line s t (say_yes b u l) passage fits known h = (grind (arith, nat_tests), grind (arith, nat_tests))
raised w line s t (say_no b u l v) passage fits known h = (grind (arith, nat_tests), grind (arith, nat_tests))
raised w line s t (busy b u l p) passage fits known h = (grind (arith, nat_tests), grind (arith, nat_tests))
raised w line s t (throw b p) passage fits known h = (grind (arith, nat_tests), grind (arith, nat_tests))
raised w line s t (settle b p) passage fits known h = (grind (arith, nat_tests), grind (arith, nat_tests))
raised w line s t (enter u k) passage fits known h = (grind (arith, nat_tests), grind (arith, nat_tests))
raised w line s t (head u k) passage fits known h = (grind (arith, nat_tests), grind (arith, nat_tests))
raised w line s t (leave u k) passage fits known h = (grind (arith, nat_tests), grind (arith, nat_tests))
raised w line s t (tail u k) passage fits known h = (grind (arith, nat_tests), grind (arith, nat_tests))

-- an attempt opens where one of those left is used up, and all that came before it is weighed in those before
Opens : Weights → Line → State → ℕ → Step → Type 0
Opens w line s t step = ((s.trains t).left ≡ ((next line s step).trains t).left + 1)
    × (rank w s t + weight_for w t step ≤ rank w (next line s step) t + attempt_weight w)

opened : (w : Weights) (line : Line) (s : State) (t u : ℕ) (l : Letter) → StepFits line s (post u l) → Known line s (post u l)
    → opens line s t (post u l) ≡ true → Opens w line s t (post u l)
unfolding Opens
opened w line s t u l fits known h = (grind (arith, nat_tests), grind (arith, nat_tests))

-- only an attempt that is left is opened at the end of a step
some_left : (row : StepRow) (job : Job) (left : ℕ) → reopens row (left == 0) job ≡ true → left ≡ left - 1 + 1
unfolding reopens
some_left row jobs.FreeFar left h = grind (arith, nat_tests)
some_left row _ left h = absurd (false≢true h)

reopened : (w : Weights) (line : Line) (s : State) (t u : ℕ) (l : Letter) → StepFits line s (hear_yes u l) → Known line s (hear_yes u l)
    → opens line s t (hear_yes u l) ≡ true → Opens w line s t (hear_yes u l)
unfolding Opens
reopened w line s t u l fits known h =
    let some = some_left (row_of line t (s.trains t)) (s.trains t).job (s.trains t).left in
    (grind (arith, nat_tests, some), grind (arith, nat_tests, rank_heard))

-- whoever is at work for a train weighs no more than its attempt can
pub bounded : (w : Weights) (line : Line) (tries : ℕ) (s : State) (t : ℕ) → Agrees line tries s → rank w s t ≤ attempt_weight w
bounded w line tries s t agrees = of (s.trains t).waits (is_pass (s.trains t).job) refl refl
  where
    in_mail : (l : Letter) (v : MailWord) → s.mail t ≡ v → Carries v l → mail_rank w s t v ≤ letter_weight w + verb_weight w l.verb
    in_mail l Empty is h = absurd h
    in_mail l (Ask k) is h = omega arith
    in_mail l (Taken k) is h =
        let same : k.verb ≡ l.verb = ap (λ z. z.verb) h in
        let box : box_rank w t (s.boxes k.to.0) (s.lock k.to.0) ≤ w.grant + w.tell + verb_weight w l.verb =
        box_bounded w t (s.boxes k.to.0) (s.lock k.to.0) l.verb
        (λ u l2 a e f. let mail = (agrees.mailboxes.says k.to.0 u l2 a e).0 in taken_verb u l2 k mail f is ∙ same)
        (λ p e f. let mail = agrees.mailboxes.waits k.to.0 p e in sym (taken_verb p.train (letter_of_path k.to.0 p) k mail f is ∙ same))
        (λ u l2 a p e f. agrees.mailboxes.says_one k.to.0 u l2 a p e f) in
        omega (arith, box)
      where
        taken_verb : (u : TrainId) (l2 k : Letter) → s.mail u.0 ≡ Taken l2 → u.0 ≡ t → s.mail t ≡ Taken k → l2.verb ≡ k.verb
        taken_verb u l2 k e f g = grind arith
    in_mail l (Yes k) is h = let same : verb_weight w k.verb ≡ verb_weight w l.verb = ap (λ z. verb_weight w z.verb) h in omega arith
    in_mail l (No k u) is h = omega arith

    of : (waits passing : Bool) → (s.trains t).waits ≡ waits → is_pass (s.trains t).job ≡ passing
        → cond waits (job_rank w (s.trains t).job + cond passing (run_rank w (s.tracks t).phase (s.run t)) (mail_rank w s t (s.mail t)))
        (ready_rank w (s.trains t).job) ≤ attempt_weight w
    of false passing e f = rank_ready w (s.trains t).job
    of true true e f = omega (arith, rank_passing w (s.trains t).job f, run_bounded w (s.tracks t).phase (s.run t))
    of true false e f =
        let there = letter_there (s.trains t).job (line.row t (s.trains t).step) (agrees.attempts t).ahead f in
        omega (
          arith,
          rank_asking w (line.row t (s.trains t).step) (s.trains t).job there.0 there.1,
          in_mail there.0 (s.mail t) refl
              (agrees.mailboxes.letter t there.0 e there.1),
        )

-- each step does either
pub raised_or_opened : (w : Weights) (line : Line) (s : State) (t : ℕ) (step : Step) → AgreesOnPassage s t → StepFits line s step → Known line s step
    → let m = (next line s step).trains t in
    ((m.left ≡ (s.trains t).left) × (rank w s t + weight_for w t step ≤ rank w (next line s step) t))
    ⊎ (((s.trains t).left ≡ m.left + 1) × (rank w s t + weight_for w t step ≤ rank w (next line s step) t + attempt_weight w))
unfolding Raises Opens
raised_or_opened w line s t (post u l) passage fits known =
    ⊎_elim (λ e. inr (opened w line s t u l fits known e)) (λ e. inl (raised w line s t (post u l) passage fits known e)) (cases_Bool (opens line s t (post u l)))
raised_or_opened w line s t (hear_yes u l) passage fits known =
    ⊎_elim (λ e. inr (reopened w line s t u l fits known e)) (λ e. inl (raised w line s t (hear_yes u l) passage fits known e))
    (cases_Bool (opens line s t (hear_yes u l)))
raised_or_opened w line s t (hear_no u l v job) passage fits known = inl (raised w line s t (hear_no u l v job) passage fits known refl)
raised_or_opened w line s t (go u) passage fits known = inl (raised w line s t (go u) passage fits known refl)
raised_or_opened w line s t (quiet u) passage fits known = inl (raised w line s t (quiet u) passage fits known refl)
raised_or_opened w line s t (take b u l) passage fits known = inl (raised w line s t (take b u l) passage fits known refl)
raised_or_opened w line s t (grant b u l) passage fits known = inl (raised w line s t (grant b u l) passage fits known refl)
raised_or_opened w line s t (refuse b u l v) passage fits known = inl (raised w line s t (refuse b u l v) passage fits known refl)
raised_or_opened w line s t (release b u l) passage fits known = inl (raised w line s t (release b u l) passage fits known refl)
raised_or_opened w line s t (lock_now b u l side) passage fits known = inl (raised w line s t (lock_now b u l side) passage fits known refl)
raised_or_opened w line s t (lock_ask b u l side) passage fits known = inl (raised w line s t (lock_ask b u l side) passage fits known refl)
raised_or_opened w line s t (lock_moved b p) passage fits known = inl (raised w line s t (lock_moved b p) passage fits known refl)
raised_or_opened w line s t (unlock b u l side) passage fits known = inl (raised w line s t (unlock b u l side) passage fits known refl)
raised_or_opened w line s t (say_yes b u l) passage fits known = inl (raised w line s t (say_yes b u l) passage fits known refl)
raised_or_opened w line s t (say_no b u l v) passage fits known = inl (raised w line s t (say_no b u l v) passage fits known refl)
raised_or_opened w line s t (busy b u l p) passage fits known = inl (raised w line s t (busy b u l p) passage fits known refl)
raised_or_opened w line s t (throw b p) passage fits known = inl (raised w line s t (throw b p) passage fits known refl)
raised_or_opened w line s t (settle b p) passage fits known = inl (raised w line s t (settle b p) passage fits known refl)
raised_or_opened w line s t (enter u k) passage fits known = inl (raised w line s t (enter u k) passage fits known refl)
raised_or_opened w line s t (head u k) passage fits known = inl (raised w line s t (head u k) passage fits known refl)
raised_or_opened w line s t (leave u k) passage fits known = inl (raised w line s t (leave u k) passage fits known refl)
raised_or_opened w line s t (tail u k) passage fits known = inl (raised w line s t (tail u k) passage fits known refl)
