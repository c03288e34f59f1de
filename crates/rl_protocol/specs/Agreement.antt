-- Agreement: how the minds and the words of a state belong together, in six parts.
use Rattle.std.specs.Prelude.{◌≡◌, ◌≢◌, ℕ, ◌+◌, ◌<◌, ◌≤◌, ◌==◌, ◌⊎◌, Bool, true, false, not, ◌&&◌, ◌||◌, if◌then◌else◌}
use Rattle.std.specs.Prelude.{Option, Some, None}
use Rattle.rl_base.specs.declared.ids.TrainId.{TrainId}
use Rattle.rl_base.specs.declared.job.Verb.{Verb}
use Rattle.rl_base.specs.declared.job.Verb.TheVariants as verbs
use Rattle.rl_base.specs.declared.kind.Kind.TheVariants.{Point}
use Rattle.rl_words.specs.declared.lock.Path.{Path}
use Rattle.rl_words.specs.declared.lock.LockWord.{LockWord}
use Rattle.rl_words.specs.declared.lock.LockWord.TheVariants.{Free, Asked, Moving, Moved, Locked}
use Rattle.rl_words.specs.declared.mail.Letter.{Letter}
use Rattle.rl_words.specs.declared.mail.MailWord.{MailWord}
use Rattle.rl_words.specs.declared.mail.MailWord.TheVariants.{Empty, Ask, Taken, Yes, No}
use Rattle.rl_words.specs.declared.run.RunWord.{RunWord}
use Rattle.rl_words.specs.declared.run.RunWord.TheVariants.{Clear, Go, Across}
use Rattle.rl_words.specs.declared.sense.SenseWord.{SenseWord}
use Rattle.rl_words.specs.declared.sense.SenseWord.TheVariants.{Quiet, Head, Tail}
use Rattle.rl_words.specs.Mail.{IsRefusable}
use Rattle.rl_train.specs.declared.mind.TrainMind.{TrainMind}
use Rattle.rl_box.specs.declared.mind.Answer.{Answer}
use Rattle.rl_box.specs.declared.mind.Answer.TheVariants as answers
use Rattle.rl_box.specs.declared.mind.BoxMind.{BoxMind}
use Rattle.rl_box.specs.declared.mind.Work.TheVariants.{Serve, Say}
use Rattle.rl_track.specs.declared.track.TrackMind.{TrackMind}
use Rattle.rl_track.specs.declared.track.TrackPhase.TheVariants.{Watch, HeadDue, LeaveDue, TailDue}
use Rattle.rl_track.specs.Track.{track_at}
use Rattle.rl_protocol.specs.Line.{Line, is_held_by}
use Rattle.rl_train.specs.Jobs.{looks_ahead, is_pass, is_near, has_passed, is_open, names_next}
use Rattle.rl_protocol.specs.State.{State}
use Rattle.rl_protocol.specs.Minds.{train, row_of, letter_of, letter_of_path}
use Rattle.rl_protocol.specs.Held.{holds, has_lock}

-- 1. Reservations. The reservation words say exactly what the trains hold, and arms that aren't there are free
pub record AgreesOnReservations (line : Line) (s : State) : Type 0 where
  pub exact : (t b x : ℕ) → is_held_by t (s.resv b x) ≡ holds line s t b x
  pub free : (b x : ℕ) → line.has_arm b x ≡ false → s.resv b x ≡ None

-- the path is train t's, from arm x to arm y
abbrev pub is_path : Path → (t x y : ℕ) → Bool
is_path p t x y = p.train.0 == t && p.x.0 == x && p.y.0 == y

-- the lock in a lock word is for that path
abbrev pub is_locked_by : LockWord → (t x y : ℕ) → Bool
is_locked_by (Free side) t x y = false
is_locked_by (Asked p) t x y = is_path p t x y
is_locked_by (Moving p) t x y = is_path p t x y
is_locked_by (Moved p) t x y = is_path p t x y
is_locked_by (Locked p) t x y = is_path p t x y

-- the path for which the points are being set
abbrev pub path_in_setting : LockWord → Option Path
path_in_setting (Free side) = None
path_in_setting (Asked p) = Some p
path_in_setting (Moving p) = Some p
path_in_setting (Moved p) = Some p
path_in_setting (Locked p) = None

-- box b serves a letter of train t, has an answer to it to say, or waits until its points are set for a path
abbrev pub Serves : State → (b : ℕ) → TrainId → Letter → Type 0
Serves s b t l = (s.boxes b).work ≡ Serve t l

abbrev pub Says : State → (b : ℕ) → TrainId → Letter → Answer → Type 0
Says s b t l answer = (s.boxes b).work ≡ Say t l answer

abbrev pub WaitsFor : State → (b : ℕ) → Path → Type 0
WaitsFor s b p = (s.boxes b).waiting ≡ Some p

-- 2. Locks. The lock words say exactly which locks the trains have. The points of a box are being set exactly for the
-- path for which it waits, and only a point waits
pub record AgreesOnLocks (line : Line) (s : State) : Type 0 where
  pub exact : (t b x y : ℕ) → is_locked_by (s.lock b) t x y ≡ has_lock line s t b x y
  pub waiting : (b : ℕ) → (s.boxes b).waiting ≡ path_in_setting (s.lock b)
  pub points : (b : ℕ) (p : Path) → WaitsFor s b p → line.kind b ≡ Point

-- the mailbox has the letter, asked, taken or answered; only a reservation or a lock is answered No
abbrev pub Carries : MailWord → Letter → Type 0
Carries Empty l = ⊥
Carries (Ask k) l = k ≡ l
Carries (Taken k) l = k ≡ l
Carries (Yes k) l = k ≡ l
Carries (No k u) l = (k ≡ l) × IsRefusable k.verb

-- the letter of the job that train t has in hand
abbrev pub HasLetter : Line → State → (t : ℕ) → Letter → Type 0
HasLetter line s t l = letter_of line t (s.trains t) ≡ Some l

-- the train waits for the answer to a letter
abbrev pub asks : TrainMind → Bool
asks m = m.waits && not (is_pass m.job)

-- the letter of train t is taken, by box b
abbrev pub IsTakenBy : State → (b t : ℕ) → Letter → Type 0
IsTakenBy s b t l = (s.mail t ≡ Taken l) × (l.to.0 ≡ b)

-- a box with the mind, of number b, serves the letter of train t, says an answer to it, or waits for its points
abbrev pub IsAtWork : BoxMind → (b t : ℕ) → Letter → Type 0
IsAtWork m b t l =
    (m.work ≡ Serve (train t) l)
    ⊎ (((answer : Answer) × (m.work ≡ Say (train t) l answer))
    ⊎ ((p : Path) × (m.waiting ≡ Some p) × (p.train.0 ≡ t) × (l ≡ letter_of_path b p)))

-- 3. Mailboxes. A train that asks nothing has an empty mailbox, and one that asks has its letter there. A letter that
-- is taken is in the work of its box, and nothing else is in the work of a box: what a box serves, answers or waits for
-- is a letter that it has taken. For one train it does only one of these
pub record AgreesOnMailboxes (line : Line) (s : State) : Type 0 where
  pub empty : (t : ℕ) → asks (s.trains t) ≡ false → s.mail t ≡ Empty
  pub letter : (t : ℕ) (l : Letter) → (s.trains t).waits ≡ true → HasLetter line s t l → Carries (s.mail t) l
  pub taken : (t : ℕ) (l : Letter) → s.mail t ≡ Taken l → IsAtWork (s.boxes l.to.0) l.to.0 t l
  pub serves : (b : ℕ) (t : TrainId) (l : Letter) → Serves s b t l → IsTakenBy s b t.0 l
  pub says : (b : ℕ) (t : TrainId) (l : Letter) (a : Answer) → Says s b t l a → IsTakenBy s b t.0 l
  pub waits : (b : ℕ) (p : Path) → WaitsFor s b p → s.mail p.train.0 ≡ Taken (letter_of_path b p)
  pub serves_one : (b : ℕ) (t : TrainId) (l : Letter) (p : Path) → Serves s b t l → WaitsFor s b p → p.train.0 ≢ t.0
  pub says_one : (b : ℕ) (t : TrainId) (l : Letter) (a : Answer) (p : Path) → Says s b t l a → WaitsFor s b p
      → p.train.0 ≢ t.0

-- who has the lock for a path that is set
abbrev pub lock_holder : LockWord → Option TrainId
lock_holder (Free side) = None
lock_holder (Asked p) = None
lock_holder (Moving p) = None
lock_holder (Moved p) = None
lock_holder (Locked p) = Some p.train

-- train u has what the letter to box b asks for: the segment at the arm, or the lock
abbrev pub HasWhatIsAsked : State → (b : ℕ) → Letter → (u : TrainId) → Verb → Type 0
HasWhatIsAsked s b l u verbs.Reserve = s.resv b l.x.0 ≡ Some u
HasWhatIsAsked s b l u verbs.Release = ⊥
HasWhatIsAsked s b l u verbs.Lock = lock_holder (s.lock b) ≡ Some u
HasWhatIsAsked s b l u verbs.Unlock = ⊥

-- 4. Answers. Who is named in a No is another train, and has what was asked for. Only a reservation or a lock is
-- refused
pub record AgreesOnAnswers (s : State) : Type 0 where
  pub other : (b : ℕ) (t u : TrainId) (l : Letter) → Says s b t l (answers.No u) → u.0 ≢ t.0
  pub has : (b : ℕ) (t u : TrainId) (l : Letter) → Says s b t l (answers.No u) → HasWhatIsAsked s b l u l.verb

-- the run word, the sense word and the track of train t
abbrev pub IsAt : State → ℕ → RunWord → SenseWord → TrackMind → Type 0
IsAt s t run sense track = (s.run t ≡ run) × (s.sense t ≡ sense) × (s.tracks t ≡ track)

-- the stages of step k from the go to the tail report
abbrev pub IsPassing : State → (t k : ℕ) → Type 0
IsPassing s t k =
    IsAt s t (Go k) (Quiet k) (track_at k Watch)
    ⊎ (IsAt s t (Across k) (Quiet k) (track_at k HeadDue)
    ⊎ (IsAt s t (Across k) (Head k) (track_at k LeaveDue)
    ⊎ (IsAt s t (Clear (k + 1)) (Head k) (track_at k TailDue)
    ⊎ IsAt s t (Clear (k + 1)) (Tail k) (track_at (k + 1) Watch))))

-- the train stands on one segment, that of this place of its route
abbrev pub IsStanding : State → (t k : ℕ) → Type 0
IsStanding s t k = IsAt s t (Clear k) (Quiet k) (track_at k Watch)

abbrev pub is_passing : TrainMind → Bool
is_passing m = m.waits && is_pass m.job

-- the place of its route at which a train stands that isn't passing its box
abbrev pub place_of : TrainMind → ℕ
place_of m = if has_passed m.job then m.step + 1 else m.step

-- 5. Passage. A train that has gone is in a stage of its step, and any other stands
pub record AgreesOnPassage (s : State) (t : ℕ) : Type 0 where
  pub stands : is_passing (s.trains t) ≡ false → IsStanding s t (place_of (s.trains t))
  pub passing : is_passing (s.trains t) ≡ true → IsPassing s t (s.trains t).step

-- a train is under way unless it is between two steps
abbrev pub is_under_way : TrainMind → Bool
is_under_way m = m.waits || not (is_near m.job)

-- 1 for an attempt that is neither a step made nor a refusal met yet
abbrev pub open_attempts : TrainMind → ℕ
open_attempts m = if is_open m.job m.waits then 1 else 0

-- 6. Attempts. The attempts left, the steps made, the refusals met and the open attempt are as many as the train was
-- given, the train is within its route, and a job about the segment after the next one is at a row that looks ahead
pub record AgreesOnAttempts (line : Line) (tries : ℕ) (s : State) (t : ℕ) : Type 0 where
  pub total : (s.trains t).left + (s.trains t).step + (s.trains t).refused + open_attempts (s.trains t) ≡ tries
  pub within : (s.trains t).step ≤ line.steps t
  pub under_way : is_under_way (s.trains t) ≡ true → (s.trains t).step < line.steps t
  pub ahead : names_next (s.trains t).job ≡ true → looks_ahead (row_of line t (s.trains t)) ≡ true

-- the whole
pub record Agrees (line : Line) (tries : ℕ) (s : State) : Type 0 where
  pub reservations : AgreesOnReservations line s
  pub locks : AgreesOnLocks line s
  pub mailboxes : AgreesOnMailboxes line s
  pub answers : AgreesOnAnswers s
  pub passage : (t : ℕ) → AgreesOnPassage s t
  pub attempts : (t : ℕ) → AgreesOnAttempts line tries s t
