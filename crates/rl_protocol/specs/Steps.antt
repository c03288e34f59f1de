-- The steps of all nodes, one label for each way a step can go: the state that it fits, and the state that it leaves.
use Rattle.std.specs.Prelude.{◌≡◌, ◌≢◌, ℕ, ◌+◌, true, false, Some, None}
use Rattle.rl_base.specs.declared.ids.TrainId.{TrainId}
use Rattle.rl_base.specs.declared.job.Job.{Job}
use Rattle.rl_base.specs.declared.job.Verb.TheVariants as verbs
use Rattle.rl_base.specs.declared.kind.Side.{Side}
use Rattle.rl_base.specs.Kind.{arms_join, joining_side}
use Rattle.rl_words.specs.declared.lock.LockWord.TheVariants.{Free, Asked, Moving, Moved, Locked}
use Rattle.rl_words.specs.declared.lock.Path.{Path}
use Rattle.rl_words.specs.declared.mail.Letter.{Letter}
use Rattle.rl_words.specs.declared.mail.MailWord.TheVariants.{Empty, Ask, Taken, Yes, No}
use Rattle.rl_words.specs.declared.run.RunWord.TheVariants.{Clear, Go, Across}
use Rattle.rl_words.specs.declared.sense.SenseWord.TheVariants.{Quiet, Head, Tail}
use Rattle.rl_words.specs.Mail.{IsRefusable}
use Rattle.rl_box.specs.declared.mind.Answer.{Answer}
use Rattle.rl_box.specs.declared.mind.Answer.TheVariants as answers
use Rattle.rl_box.specs.declared.mind.Work.{Work}
use Rattle.rl_box.specs.declared.mind.BoxMind.{BoxMind}
use Rattle.rl_box.specs.declared.mind.Work.TheVariants.{Ready, Serve, Say}
use Rattle.rl_track.specs.declared.track.TrackPhase.TheVariants.{Watch, HeadDue, LeaveDue, TailDue}
use Rattle.rl_train.specs.Steps.{posted, denied}
use Rattle.rl_box.specs.Mind.{box_at}
use Rattle.rl_box.specs.Steps.{path_of, other_side}
use Rattle.rl_track.specs.Track.{track_at}
use Rattle.rl_protocol.specs.Line.{Line}
use Rattle.rl_train.specs.Jobs.{after_no, is_pass}
use Rattle.rl_protocol.specs.State.{State, put, put_at}
use Rattle.rl_protocol.specs.Minds.{train, letter_of_path, row_of, letter_of, at_rest, heard, passed, names_arms}
use Rattle.rl_protocol.specs.Minds.{serving}

-- t is a train and b a box by its number, l the letter of train t, u the train in the way, p a path, and k a step of
-- the route of train t
pub data Step : Type 0 where
  post : (t : ℕ) (l : Letter) → Step
  hear_yes : (t : ℕ) (l : Letter) → Step
  hear_no : (t : ℕ) (l : Letter) (u : TrainId) (job : Job) → Step
  go : (t : ℕ) → Step
  quiet : (t : ℕ) → Step
  take : (b t : ℕ) (l : Letter) → Step
  grant : (b t : ℕ) (l : Letter) → Step
  refuse : (b t : ℕ) (l : Letter) (u : TrainId) → Step
  release : (b t : ℕ) (l : Letter) → Step
  lock_now : (b t : ℕ) (l : Letter) (side : Side) → Step
  lock_ask : (b t : ℕ) (l : Letter) (side : Side) → Step
  lock_moved : (b : ℕ) (p : Path) → Step
  unlock : (b t : ℕ) (l : Letter) (side : Side) → Step
  say_yes : (b t : ℕ) (l : Letter) → Step
  say_no : (b t : ℕ) (l : Letter) (u : TrainId) → Step
  busy : (b t : ℕ) (l : Letter) (p : Path) → Step
  throw : (b : ℕ) (p : Path) → Step
  settle : (b : ℕ) (p : Path) → Step
  enter : (t k : ℕ) → Step
  head : (t k : ℕ) → Step
  leave : (t k : ℕ) → Step
  tail : (t k : ℕ) → Step

-- the mind and the word of each step, as the step finds them
abbrev pub StepFits : Line → State → Step → Type 0
StepFits line s (post t l) =
    ((s.trains t).waits ≡ false) × (at_rest line t (s.trains t) ≡ false)
    × (letter_of line t (s.trains t) ≡ Some l) × (s.mail t ≡ Empty)
StepFits line s (hear_yes t l) =
    ((s.trains t).waits ≡ true) × (letter_of line t (s.trains t) ≡ Some l) × (s.mail t ≡ Yes l)
StepFits line s (hear_no t l u job) =
    ((s.trains t).waits ≡ true) × (letter_of line t (s.trains t) ≡ Some l) × (s.mail t ≡ No l u)
    × (after_no (row_of line t (s.trains t)) (s.trains t).job ≡ Some job)
StepFits line s (go t) =
    ((s.trains t).waits ≡ false) × (is_pass (s.trains t).job ≡ true) × (s.run t ≡ Clear (s.trains t).step)
StepFits line s (quiet t) =
    ((s.trains t).waits ≡ true) × (is_pass (s.trains t).job ≡ true) × (s.sense t ≡ Tail (s.trains t).step)
StepFits line s (take b t l) =
    ((s.boxes b).work ≡ Ready) × (s.mail t ≡ Ask l) × (l.to.0 ≡ b) × (names_arms line l ≡ true)
StepFits line s (grant b t l) =
    ((s.boxes b).work ≡ Serve (train t) l) × (l.verb ≡ verbs.Reserve) × (s.resv b l.x.0 ≡ None)
StepFits line s (refuse b t l u) =
    ((s.boxes b).work ≡ Serve (train t) l) × (l.verb ≡ verbs.Reserve) × (s.resv b l.x.0 ≡ Some u) × (u.0 ≢ t)
StepFits line s (release b t l) =
    ((s.boxes b).work ≡ Serve (train t) l) × (l.verb ≡ verbs.Release) × (s.resv b l.x.0 ≡ Some (train t))
StepFits line s (lock_now b t l side) =
    (s.boxes b ≡ serving t l) × (l.verb ≡ verbs.Lock) × (s.lock b ≡ Free side)
    × (arms_join (line.kind b) l.x.0 l.y.0 side ≡ true)
StepFits line s (lock_ask b t l side) =
    (s.boxes b ≡ serving t l) × (l.verb ≡ verbs.Lock) × (s.lock b ≡ Free side)
    × (arms_join (line.kind b) l.x.0 l.y.0 side ≡ false)
    × (arms_join (line.kind b) l.x.0 l.y.0 (other_side side) ≡ true)
StepFits line s (lock_moved b p) =
    (s.boxes b ≡ box_at Ready (Some p)) × (s.lock b ≡ Moved p)
StepFits line s (unlock b t l side) =
    (s.boxes b ≡ serving t l) × (l.verb ≡ verbs.Unlock) × (s.lock b ≡ Locked (path_of (train t) l))
    × (joining_side (line.kind b) l.x.0 l.y.0 ≡ Some side)
StepFits line s (say_yes b t l) =
    ((s.boxes b).work ≡ Say (train t) l answers.Yes) × (s.mail t ≡ Taken l)
StepFits line s (say_no b t l u) =
    ((s.boxes b).work ≡ Say (train t) l (answers.No u)) × IsRefusable l.verb × (s.mail t ≡ Taken l)
StepFits line s (busy b t l p) =
    (s.boxes b ≡ serving t l) × (l.verb ≡ verbs.Lock) × (s.lock b ≡ Locked p) × (p.train.0 ≢ t)
StepFits line s (throw b p) = s.lock b ≡ Asked p
StepFits line s (settle b p) = s.lock b ≡ Moving p
StepFits line s (enter t k) = (s.tracks t ≡ track_at k Watch) × (s.run t ≡ Go k)
StepFits line s (head t k) = (s.tracks t ≡ track_at k HeadDue) × (s.sense t ≡ Quiet k)
StepFits line s (leave t k) = (s.tracks t ≡ track_at k LeaveDue) × (s.run t ≡ Across k)
StepFits line s (tail t k) = (s.tracks t ≡ track_at k TailDue) × (s.sense t ≡ Head k)

-- the box's mind with another work, and what it is once it has an answer to say
abbrev pub with_work : State → ℕ → Work → ℕ → BoxMind
with_work s b work = put s.boxes b (record (s.boxes b) { work = work })

abbrev pub saying : State → ℕ → ℕ → Letter → Answer → ℕ → BoxMind
saying s b t l answer = with_work s b (Say (train t) l answer)

-- the state after each step: the mind and the word of its node are as the step leaves them, and all else stays
abbrev pub next : Line → State → Step → State
next line s (post t l) = record s { trains = put s.trains t (posted (s.trains t)); mail = put s.mail t (Ask l) }
next line s (hear_yes t l) =
    record s { trains = put s.trains t (heard line t (s.trains t)); mail = put s.mail t Empty }
next line s (hear_no t l u job) =
    record s { trains = put s.trains t (denied job (s.trains t)); mail = put s.mail t Empty }
next line s (go t) =
    let m = s.trains t in
    record s { trains = put s.trains t (record m { waits = true }); run = put s.run t (Go m.step) }
next line s (quiet t) =
    let m = s.trains t in
    record s { trains = put s.trains t (passed m); sense = put s.sense t (Quiet (m.step + 1)) }
next line s (take b t l) = record s { boxes = with_work s b (Serve (train t) l); mail = put s.mail t (Taken l) }
next line s (grant b t l) =
    record s { boxes = saying s b t l answers.Yes; resv = put_at s.resv b l.x.0 (Some (train t)) }
next line s (refuse b t l u) = record s { boxes = saying s b t l (answers.No u) }
next line s (release b t l) = record s { boxes = saying s b t l answers.Yes; resv = put_at s.resv b l.x.0 None }
next line s (lock_now b t l side) =
    record s { boxes = saying s b t l answers.Yes; lock = put s.lock b (Locked (path_of (train t) l)) }
next line s (lock_ask b t l side) =
    let p = path_of (train t) l in
    record s { boxes = put s.boxes b (box_at Ready (Some p)); lock = put s.lock b (Asked p) }
next line s (lock_moved b p) =
    record s {
      boxes = put s.boxes b (box_at (Say p.train (letter_of_path b p) answers.Yes) None);
      lock = put s.lock b (Locked p);
    }
next line s (unlock b t l side) = record s { boxes = saying s b t l answers.Yes; lock = put s.lock b (Free side) }
next line s (say_yes b t l) = record s { boxes = with_work s b Ready; mail = put s.mail t (Yes l) }
next line s (say_no b t l u) = record s { boxes = with_work s b Ready; mail = put s.mail t (No l u) }
next line s (busy b t l p) = record s { boxes = saying s b t l (answers.No p.train) }
next line s (throw b p) = record s { lock = put s.lock b (Moving p) }
next line s (settle b p) = record s { lock = put s.lock b (Moved p) }
next line s (enter t k) = record s { tracks = put s.tracks t (track_at k HeadDue); run = put s.run t (Across k) }
next line s (head t k) = record s { tracks = put s.tracks t (track_at k LeaveDue); sense = put s.sense t (Head k) }
next line s (leave t k) = record s { tracks = put s.tracks t (track_at k TailDue); run = put s.run t (Clear (k + 1)) }
next line s (tail t k) = record s { tracks = put s.tracks t (track_at (k + 1) Watch); sense = put s.sense t (Tail k) }
