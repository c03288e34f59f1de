-- Ranks: the most that the events of a train's open attempt can weigh so far.
use Rattle.std.proofs.Common.{◌≡◌, ◌≢◌, ℕ, ◌+◌, ◌*◌, ◌≤◌, ◌==◌, Bool, true, cond, if◌then◌else◌, Option, Some, None, refl, arith}
use Rattle.std.proofs.lemmas.Option.{none-some}
use Rattle.std.proofs.lemmas.Bool.{cases_Bool}
use Rattle.std.proofs.lemmas.Bool.Decides.{nat_tests}
use Rattle.rl_base.specs.declared.ids.TrainId.{TrainId}
use Rattle.rl_base.specs.declared.job.Job.{Job}
use Rattle.rl_base.specs.declared.job.Job.TheVariants as jobs
use Rattle.rl_base.specs.declared.job.Verb.{Verb}
use Rattle.rl_base.specs.declared.job.Verb.TheVariants as verbs
use Rattle.rl_words.specs.declared.lock.LockWord.{LockWord}
use Rattle.rl_words.specs.declared.lock.LockWord.TheVariants.{Free, Asked, Moving, Moved, Locked}
use Rattle.rl_words.specs.declared.lock.Path.{Path}
use Rattle.rl_words.specs.declared.mail.Letter.{Letter}
use Rattle.rl_words.specs.declared.mail.MailWord.{MailWord}
use Rattle.rl_words.specs.declared.mail.MailWord.TheVariants.{Empty, Ask, Taken, Yes, No}
use Rattle.rl_words.specs.declared.run.RunWord.{RunWord}
use Rattle.rl_words.specs.declared.run.RunWord.TheVariants.{Clear, Go, Across}
use Rattle.rl_tables.specs.declared.table.StepRow.{StepRow}
use Rattle.rl_box.specs.declared.mind.Answer.{Answer}
use Rattle.rl_box.specs.declared.mind.Answer.TheVariants as answers
use Rattle.rl_box.specs.declared.mind.BoxMind.{BoxMind}
use Rattle.rl_box.specs.declared.mind.Work.{Work}
use Rattle.rl_box.specs.declared.mind.Work.TheVariants.{Ready, Serve, Say}
use Rattle.rl_track.specs.declared.track.TrackPhase.{TrackPhase}
use Rattle.rl_track.specs.declared.track.TrackPhase.TheVariants.{HeadDue, TailDue}
use Rattle.rl_protocol.specs.Line.{Line}
use Rattle.rl_train.specs.Jobs.{looks_ahead, letter, after_yes, after_no, reopens, is_pass, is_near}
use Rattle.rl_protocol.specs.State.{State, start}
use Rattle.rl_protocol.specs.Steps.{Step, post, hear_yes, hear_no, go, quiet, take, grant, refuse, release, lock_now, lock_ask, lock_moved, unlock, say_yes}
use Rattle.rl_protocol.specs.Steps.{say_no, busy, throw, settle, enter, head, leave, tail}
use Rattle.rl_protocol.specs.Held.{is_path_of}
use Rattle.rl_protocol.proofs.Letters.{next_verb}

-- what each kind of step weighs. A box grants or denies what it is asked, and tells the answer
pub record Weights : Type 0 where
  pub post : ℕ
  pub hear : ℕ
  pub take : ℕ
  pub grant : ℕ
  pub tell : ℕ
  pub deny : ℕ
  pub tell_no : ℕ
  pub turn : ℕ  -- the box has seen its points moved
  pub throw : ℕ
  pub settle : ℕ
  pub go : ℕ
  pub enter : ℕ
  pub head : ℕ
  pub leave : ℕ
  pub tail : ℕ
  pub quiet : ℕ
  pub fair : deny + tell_no ≤ grant + tell

abbrev pub weight : Weights → Step → ℕ
weight w (post t l) = w.post
weight w (hear_yes t l) = w.hear
weight w (hear_no t l u job) = w.hear
weight w (go t) = w.go
weight w (quiet t) = w.quiet
weight w (take b t l) = w.take
weight w (grant b t l) = w.grant
weight w (refuse b t l u) = w.deny
weight w (release b t l) = w.grant
weight w (lock_now b t l side) = w.grant
weight w (lock_ask b t l side) = w.grant
weight w (lock_moved b p) = w.turn
weight w (unlock b t l side) = w.grant
weight w (say_yes b t l) = w.tell
weight w (say_no b t l u) = w.tell_no
weight w (busy b t l p) = w.deny
weight w (throw b p) = w.throw
weight w (settle b p) = w.settle
weight w (enter t k) = w.enter
weight w (head t k) = w.head
weight w (leave t k) = w.leave
weight w (tail t k) = w.tail

-- the train that each step is about
abbrev pub about : Step → ℕ
about (post t l) = t
about (hear_yes t l) = t
about (hear_no t l u job) = t
about (go t) = t
about (quiet t) = t
about (take b t l) = t
about (grant b t l) = t
about (refuse b t l u) = t
about (release b t l) = t
about (lock_now b t l side) = t
about (lock_ask b t l side) = t
about (lock_moved b p) = p.train.0
about (unlock b t l side) = t
about (say_yes b t l) = t
about (say_no b t l u) = t
about (busy b t l p) = t
about (throw b p) = p.train.0
about (settle b p) = p.train.0
about (enter t k) = t
about (head t k) = t
about (leave t k) = t
about (tail t k) = t

-- a letter from its post to the answer heard, the points that a lock may want, and a passage
abbrev pub letter_weight : Weights → ℕ
letter_weight w = w.post + w.take + w.grant + w.tell + w.hear

abbrev pub points_weight : Weights → ℕ
points_weight w = w.throw + w.settle + w.turn

abbrev pub passage_weight : Weights → ℕ
passage_weight w = w.go + w.enter + w.head + w.leave + w.tail + w.quiet

-- all that an attempt can weigh
abbrev pub attempt_weight : Weights → ℕ
attempt_weight w = 10 * letter_weight w + points_weight w + passage_weight w

-- what a verb can weigh beside a letter
abbrev pub verb_weight : Weights → Verb → ℕ
verb_weight w verbs.Reserve = 0
verb_weight w verbs.Release = 0
verb_weight w verbs.Lock = points_weight w
verb_weight w verbs.Unlock = 0

-- the most that can have come before the letter of a job, or before its passage, since the attempt was opened. The drops
-- stand last, so that each job's rank is that of the one before it and a letter
unfoldable pub job_rank : Weights → Job → ℕ
job_rank w jobs.Near = 0
job_rank w jobs.Far = letter_weight w
job_rank w jobs.Near2 = 2 * letter_weight w
job_rank w jobs.Far2 = 3 * letter_weight w
job_rank w jobs.Lock = 4 * letter_weight w
job_rank w jobs.Pass = 5 * letter_weight w + points_weight w
job_rank w jobs.Unlock = 5 * letter_weight w + points_weight w + passage_weight w
job_rank w jobs.FreeNear = 6 * letter_weight w + points_weight w + passage_weight w
job_rank w jobs.FreeFar = 7 * letter_weight w + points_weight w + passage_weight w
job_rank w jobs.DropFar2 = 6 * letter_weight w + points_weight w + passage_weight w
job_rank w jobs.DropNear2 = 7 * letter_weight w + points_weight w + passage_weight w
job_rank w jobs.DropFar = 8 * letter_weight w + points_weight w + passage_weight w
job_rank w jobs.DropNear = 9 * letter_weight w + points_weight w + passage_weight w

-- what the box has done of a letter
abbrev pub work_rank : Weights → ℕ → Work → ℕ
work_rank w t Ready = 0
work_rank w t (Serve u l) = 0
work_rank w t (Say u l answers.Yes) = if u.0 == t then w.grant + verb_weight w l.verb else 0
work_rank w t (Say u l (answers.No v)) = if u.0 == t then w.deny else 0

abbrev pub lock_rank : Weights → LockWord → ℕ
lock_rank w (Free side) = 0
lock_rank w (Asked p) = w.grant
lock_rank w (Moving p) = w.grant + w.throw
lock_rank w (Moved p) = w.grant + w.throw + w.settle
lock_rank w (Locked p) = 0

abbrev pub box_rank : Weights → ℕ → BoxMind → LockWord → ℕ
box_rank w t m v = work_rank w t m.work + (if is_path_of t m.waiting then lock_rank w v else 0)

abbrev pub mail_rank : Weights → State → ℕ → MailWord → ℕ
mail_rank w s t Empty = 0
mail_rank w s t (Ask l) = w.post
mail_rank w s t (Taken l) = w.post + w.take + box_rank w t (s.boxes l.to.0) (s.lock l.to.0)
mail_rank w s t (Yes l) = w.post + w.take + w.grant + w.tell + verb_weight w l.verb
mail_rank w s t (No l u) = w.post + w.take + w.grant + w.tell

-- what came of a passage
abbrev pub across_rank : Weights → TrackPhase → ℕ
across_rank w HeadDue = w.go + w.enter
across_rank w _ = w.go + w.enter + w.head

abbrev pub clear_rank : Weights → TrackPhase → ℕ
clear_rank w TailDue = w.go + w.enter + w.head + w.leave
clear_rank w _ = w.go + w.enter + w.head + w.leave + w.tail

abbrev pub run_rank : Weights → TrackPhase → RunWord → ℕ
run_rank w phase (Go k) = w.go
run_rank w phase (Across k) = across_rank w phase
run_rank w phase (Clear k) = clear_rank w phase

-- the rank of train t: all that an attempt can weigh where none is open
abbrev pub ready_rank : Weights → Job → ℕ
ready_rank w job = if is_near job then attempt_weight w else job_rank w job

abbrev pub rank : Weights → State → ℕ → ℕ
rank w s t =
    let m = s.trains t in
    if m.waits
    then job_rank w m.job + (if is_pass m.job then run_rank w (s.tracks t).phase (s.run t) else mail_rank w s t (s.mail t))
    else ready_rank w m.job

-- with the answer heard a letter has weighed what it can, in the attempt that goes on, or in the one that ends where the
-- next is opened
pub rank_heard : (w : Weights) (row : StepRow) (more spent : Bool) (job : Job) (l : Letter) → letter row job ≡ Some l
    → job_rank w job + letter_weight w + verb_weight w l.verb
    ≤ ready_rank w (after_yes row more spent job) + cond (reopens row spent job) (attempt_weight w) 0
unfolding letter after_yes job_rank is_near reopens
rank_heard w row more spent jobs.Near l h = grind arith
rank_heard w row more spent jobs.Far l h = grind (arith, cases_Bool (looks_ahead row))
rank_heard w row more spent jobs.Near2 l h = let own = next_verb row.next _ verbs.Reserve l (λ n. refl) h in grind arith
rank_heard w row more spent jobs.Far2 l h = let own = next_verb row.next _ verbs.Reserve l (λ n. refl) h in grind arith
rank_heard w row more spent jobs.Lock l h = grind arith
rank_heard w row more spent jobs.Pass l h = absurd (none-some l h)
rank_heard w row more spent jobs.Unlock l h = grind arith
rank_heard w row more spent jobs.FreeNear l h = grind arith
rank_heard w row more spent jobs.FreeFar l h = grind (arith, cases_Bool (looks_ahead row), cases_Bool spent, cases_Bool more)
rank_heard w row more spent jobs.DropFar2 l h = let own = next_verb row.next _ verbs.Release l (λ n. refl) h in grind arith
rank_heard w row more spent jobs.DropNear2 l h = let own = next_verb row.next _ verbs.Release l (λ n. refl) h in grind arith
rank_heard w row more spent jobs.DropFar l h = grind arith
rank_heard w row more spent jobs.DropNear l h = grind arith

pub rank_denied : (w : Weights) (row : StepRow) (job new : Job) → after_no row job ≡ Some new → job_rank w job + letter_weight w ≤ ready_rank w new
unfolding after_no job_rank is_near
rank_denied w row jobs.Near new h = grind arith
rank_denied w row jobs.Far new h = grind arith
rank_denied w row jobs.Near2 new h = grind arith
rank_denied w row jobs.Far2 new h = grind arith
rank_denied w row jobs.Lock new h = grind (arith, cases_Bool (looks_ahead row))
rank_denied w row jobs.Pass new h = grind arith
rank_denied w row jobs.Unlock new h = grind arith
rank_denied w row jobs.FreeNear new h = grind arith
rank_denied w row jobs.FreeFar new h = grind arith
rank_denied w row jobs.DropFar2 new h = grind arith
rank_denied w row jobs.DropNear2 new h = grind arith
rank_denied w row jobs.DropFar new h = grind arith
rank_denied w row jobs.DropNear new h = grind arith

pub rank_passed : (w : Weights) (job : Job) → is_pass job ≡ true → job_rank w job + passage_weight w ≤ ready_rank w jobs.Unlock
unfolding is_pass job_rank is_near
rank_passed w jobs.Near h = cc
rank_passed w jobs.Far h = cc
rank_passed w jobs.Near2 h = cc
rank_passed w jobs.Far2 h = cc
rank_passed w jobs.Lock h = cc
rank_passed w jobs.Pass h = omega arith
rank_passed w jobs.Unlock h = cc
rank_passed w jobs.FreeNear h = cc
rank_passed w jobs.FreeFar h = cc
rank_passed w jobs.DropFar2 h = cc
rank_passed w jobs.DropNear2 h = cc
rank_passed w jobs.DropFar h = cc
rank_passed w jobs.DropNear h = cc

pub rank_opened : (w : Weights) (job : Job) → is_near job ≡ true → job_rank w job ≡ 0
unfolding is_near job_rank
rank_opened w jobs.Near h = refl
rank_opened w jobs.Far h = cc
rank_opened w jobs.Near2 h = cc
rank_opened w jobs.Far2 h = cc
rank_opened w jobs.Lock h = cc
rank_opened w jobs.Pass h = cc
rank_opened w jobs.Unlock h = cc
rank_opened w jobs.FreeNear h = cc
rank_opened w jobs.FreeFar h = cc
rank_opened w jobs.DropFar2 h = cc
rank_opened w jobs.DropNear2 h = cc
rank_opened w jobs.DropFar h = cc
rank_opened w jobs.DropNear h = cc

-- no rank is above what an attempt can weigh
pub rank_ready : (w : Weights) (job : Job) → ready_rank w job ≤ attempt_weight w
unfolding job_rank is_near
rank_ready w jobs.Near = omega arith
rank_ready w jobs.Far = omega arith
rank_ready w jobs.Near2 = omega arith
rank_ready w jobs.Far2 = omega arith
rank_ready w jobs.Lock = omega arith
rank_ready w jobs.Pass = omega arith
rank_ready w jobs.Unlock = omega arith
rank_ready w jobs.FreeNear = omega arith
rank_ready w jobs.FreeFar = omega arith
rank_ready w jobs.DropFar2 = omega arith
rank_ready w jobs.DropNear2 = omega arith
rank_ready w jobs.DropFar = omega arith
rank_ready w jobs.DropNear = omega arith

pub rank_asking : (w : Weights) (row : StepRow) (job : Job) (l : Letter) → letter row job ≡ Some l
    → job_rank w job + letter_weight w + verb_weight w l.verb ≤ attempt_weight w
unfolding letter job_rank
rank_asking w row jobs.Near l h = grind arith
rank_asking w row jobs.Far l h = grind arith
rank_asking w row jobs.Near2 l h = let own = next_verb row.next _ verbs.Reserve l (λ n. refl) h in grind arith
rank_asking w row jobs.Far2 l h = let own = next_verb row.next _ verbs.Reserve l (λ n. refl) h in grind arith
rank_asking w row jobs.Lock l h = grind arith
rank_asking w row jobs.Pass l h = absurd (none-some l h)
rank_asking w row jobs.Unlock l h = grind arith
rank_asking w row jobs.FreeNear l h = grind arith
rank_asking w row jobs.FreeFar l h = grind arith
rank_asking w row jobs.DropFar2 l h = let own = next_verb row.next _ verbs.Release l (λ n. refl) h in grind arith
rank_asking w row jobs.DropNear2 l h = let own = next_verb row.next _ verbs.Release l (λ n. refl) h in grind arith
rank_asking w row jobs.DropFar l h = grind arith
rank_asking w row jobs.DropNear l h = grind arith

pub rank_passing : (w : Weights) (job : Job) → is_pass job ≡ true → job_rank w job + passage_weight w ≤ attempt_weight w
unfolding is_pass job_rank
rank_passing w jobs.Near h = cc
rank_passing w jobs.Far h = cc
rank_passing w jobs.Near2 h = cc
rank_passing w jobs.Far2 h = cc
rank_passing w jobs.Lock h = cc
rank_passing w jobs.Pass h = omega arith
rank_passing w jobs.Unlock h = cc
rank_passing w jobs.FreeNear h = cc
rank_passing w jobs.FreeFar h = cc
rank_passing w jobs.DropFar2 h = cc
rank_passing w jobs.DropNear2 h = cc
rank_passing w jobs.DropFar h = cc
rank_passing w jobs.DropNear h = cc

pub run_bounded : (w : Weights) (phase : TrackPhase) (run : RunWord) → run_rank w phase run ≤ passage_weight w
run_bounded w phase run = grind arith

-- a box that has a letter in hand has weighed no more than the letter can
pub box_bounded : (w : Weights) (t : ℕ) (m : BoxMind) (v : LockWord) (verb : Verb)
    → ((u : TrainId) (l : Letter) (a : Answer) → m.work ≡ Say u l a → u.0 ≡ t → l.verb ≡ verb)
    → ((p : Path) → m.waiting ≡ Some p → p.train.0 ≡ t → verb ≡ verbs.Lock)
    → ((u : TrainId) (l : Letter) (a : Answer) (p : Path) → m.work ≡ Say u l a → m.waiting ≡ Some p → p.train.0 ≢ u.0)
    → box_rank w t m v ≤ w.grant + w.tell + verb_weight w verb
box_bounded w t m v verb says waits one = of m.work m.waiting refl refl
  where
    of : (work : Work) (o : Option Path) → m.work ≡ work → m.waiting ≡ o
        → work_rank w t work + cond (is_path_of t o) (lock_rank w v) 0 ≤ w.grant + w.tell + verb_weight w verb
    of Ready None e f = omega arith
    of Ready (Some p) e f = by_path p (waits p f)
      where
        by_path : (p : Path) → (p.train.0 ≡ t → verb ≡ verbs.Lock) → 0 + cond (is_path_of t (Some p)) (lock_rank w v) 0 ≤ w.grant + w.tell + verb_weight w verb
        by_path p is = grind (arith, nat_tests)
    of (Serve u l) None e f = omega arith
    of (Serve u l) (Some p) e f = by_path p (waits p f)
      where
        by_path : (p : Path) → (p.train.0 ≡ t → verb ≡ verbs.Lock) → 0 + cond (is_path_of t (Some p)) (lock_rank w v) 0 ≤ w.grant + w.tell + verb_weight w verb
        by_path p is = grind (arith, nat_tests)
    of (Say u l answers.Yes) None e f = let is = says u l answers.Yes e in let fair = w.fair in grind (arith, nat_tests)
    of (Say u l (answers.No x)) None e f = let fair = w.fair in grind (arith, nat_tests)
    of (Say u l answers.Yes) (Some p) e f = let is = says u l answers.Yes e in let lock = waits p f in let other = one u l answers.Yes p e f in
        grind (arith, nat_tests)
    of (Say u l (answers.No x)) (Some p) e f = let lock = waits p f in let other = one u l (answers.No x) p e f in let fair = w.fair in grind (arith, nat_tests)

-- at the start no attempt is open
pub rank_starts : (w : Weights) (line : Line) (tries t : ℕ) → rank w (start line tries) t ≡ attempt_weight w
unfolding is_near
rank_starts w line tries t = refl
