-- The steps of a box: first as sentences, one for each line of the table of steps, then as a function.
use Rattle.std.specs.Prelude.{◌≡◌, ◌≢◌, ℕ, ◌==◌, nat_lt, Bool, true, false, ◌&&◌, Option, Some, None, option_map}
use Rattle.std.specs.Prelude.{if◌then◌else◌}
use Rattle.rl_base.specs.declared.ids.TrainId.{TrainId}
use Rattle.rl_base.specs.declared.job.Verb.{Verb}
use Rattle.rl_base.specs.declared.job.Verb.TheVariants as verbs
use Rattle.rl_base.specs.declared.kind.Side.{Side}
use Rattle.rl_base.specs.declared.kind.Side.TheVariants.{Left, Right}
use Rattle.rl_base.specs.declared.layout.Layout.{Layout}
use Rattle.rl_base.specs.declared.layout.WordKind.{WordKind}
use Rattle.rl_base.specs.declared.layout.WordKind.TheVariants as kinds
use Rattle.rl_base.specs.Kind.{arms_of, arms_join, joining_side}
use Rattle.rl_words.specs.declared.lock.LockWord.{LockWord}
use Rattle.rl_words.specs.declared.lock.LockWord.TheVariants.{Free, Asked, Moving, Moved, Locked}
use Rattle.rl_words.specs.declared.lock.Path.{Path}
use Rattle.rl_words.specs.declared.mail.Letter.{Letter}
use Rattle.rl_words.specs.declared.mail.MailWord.{MailWord}
use Rattle.rl_words.specs.declared.mail.MailWord.TheVariants as mails
use Rattle.rl_words.specs.declared.resv.ResvWord.{ResvWord}
use Rattle.rl_words.specs.Mail.{same_letter, about_passage}
use Rattle.rl_words.specs.Readings.{is_refusable}
use Rattle.rl_words.specs.Resv.{arm_in, with_arm}
use Rattle.rl_words.specs.Word.{Word, packed_step}
use Rattle.rl_words.specs.Word.Word.{Resv, Lock, Mail, Run, Sense}
use Rattle.rl_tables.specs.declared.table.BoxTable.{BoxTable}
use Rattle.rl_box.specs.declared.mind.Answer.{Answer}
use Rattle.rl_box.specs.declared.mind.Answer.TheVariants.{Yes, No}
use Rattle.rl_box.specs.declared.mind.BoxMind.{BoxMind}
use Rattle.rl_box.specs.declared.mind.Work.{Work}
use Rattle.rl_box.specs.declared.mind.Work.TheVariants.{Ready, Serve, Say}
use Rattle.rl_box.specs.Mind.{box_at}

-- the box has the arms of the letter. Of a letter about one arm the second is arm 0, which every box has
abbrev pub has_arms : BoxTable → Letter → Bool
has_arms b l = nat_lt l.x.0 (arms_of b.kind) && nat_lt l.y.0 (arms_of b.kind)

-- the path that a letter about a passage asks for
abbrev pub path_of : TrainId → Letter → Path
path_of t l = record { train = t; x = l.x; y = l.y }

abbrev pub other_side : Side → Side
other_side Left = Right
other_side Right = Left

-- the points connect the passage of the letter at the side
abbrev pub connects : BoxTable → Letter → Side → Bool
connects b l side = arms_join b.kind l.x.0 l.y.0 side

-- The step of a box with this table, line by line: its mind, the word that it sees and what that says, what it says
-- after the step, and the mind after it.
pub data BoxStep (b : BoxTable) : BoxMind → Word → Word → BoxMind → Type 0 where
  -- a train asks it something: it takes the letter
  take :
      (t : TrainId) (l : Letter) (waiting : Option Path)
      → l.to ≡ b.number → has_arms b l ≡ true
      → BoxStep b (box_at Ready waiting) (Mail t (mails.Ask l)) (Mail t (mails.Taken l)) (box_at (Serve t l) waiting)
  -- it reserves the arm, which is free
  reserve :
      (t : TrainId) (l : Letter) (waiting : Option Path) (w : ResvWord)
      → l.verb ≡ verbs.Reserve → arm_in w l.x.0 ≡ None
      → BoxStep b (box_at (Serve t l) waiting) (Resv b.number w)
      (Resv b.number (with_arm w l.x.0 (Some t))) (box_at (Say t l Yes) waiting)
  -- it refuses the arm, which another train holds
  refuse :
      (t u : TrainId) (l : Letter) (waiting : Option Path) (w : ResvWord)
      → l.verb ≡ verbs.Reserve → arm_in w l.x.0 ≡ Some u → u ≢ t
      → BoxStep b (box_at (Serve t l) waiting) (Resv b.number w) (Resv b.number w) (box_at (Say t l (No u)) waiting)
  -- it releases the arm, which the train holds
  release :
      (t : TrainId) (l : Letter) (waiting : Option Path) (w : ResvWord)
      → l.verb ≡ verbs.Release → arm_in w l.x.0 ≡ Some t
      → BoxStep b (box_at (Serve t l) waiting) (Resv b.number w)
      (Resv b.number (with_arm w l.x.0 None)) (box_at (Say t l Yes) waiting)
  -- it locks the passage, which it connects as it stands
  lock :
      (t : TrainId) (l : Letter) (side : Side)
      → l.verb ≡ verbs.Lock → connects b l side ≡ true
      → BoxStep b (box_at (Serve t l) None) (Lock b.number (Free side))
      (Lock b.number (Locked (path_of t l))) (box_at (Say t l Yes) None)
  -- it asks its machine for the points, since it connects the passage at the other side alone
  ask :
      (t : TrainId) (l : Letter) (side : Side)
      → l.verb ≡ verbs.Lock → connects b l side ≡ false → connects b l (other_side side) ≡ true
      → BoxStep b (box_at (Serve t l) None) (Lock b.number (Free side))
      (Lock b.number (Asked (path_of t l))) (box_at Ready (Some (path_of t l)))
  -- the points that it waits for have moved
  moved :
      (p : Path)
      → BoxStep b (box_at Ready (Some p)) (Lock b.number (Moved p))
      (Lock b.number (Locked p)) (box_at (Say p.train (about_passage b.number verbs.Lock p.x p.y) Yes) None)
  -- it unlocks the passage, which the train has locked
  unlock :
      (t : TrainId) (l : Letter) (side : Side)
      → l.verb ≡ verbs.Unlock → joining_side b.kind l.x.0 l.y.0 ≡ Some side
      → BoxStep b (box_at (Serve t l) None) (Lock b.number (Locked (path_of t l)))
      (Lock b.number (Free side)) (box_at (Say t l Yes) None)
  -- it says yes
  say_yes :
      (t : TrainId) (l : Letter) (waiting : Option Path)
      → BoxStep b (box_at (Say t l Yes) waiting) (Mail t (mails.Taken l)) (Mail t (mails.Yes l)) (box_at Ready waiting)
  -- it says no to a reservation: the train is refused
  say_refused :
      (t u : TrainId) (l : Letter) (waiting : Option Path)
      → l.verb ≡ verbs.Reserve
      → BoxStep b (box_at (Say t l (No u)) waiting) (Mail t (mails.Taken l))
      (Mail t (mails.No l u)) (box_at Ready waiting)
  -- it says no to a lock: the train is barred
  say_barred :
      (t u : TrainId) (l : Letter) (waiting : Option Path)
      → l.verb ≡ verbs.Lock
      → BoxStep b (box_at (Say t l (No u)) waiting) (Mail t (mails.Taken l))
      (Mail t (mails.No l u)) (box_at Ready waiting)
  -- another train has the lock
  busy :
      (t : TrainId) (l : Letter) (p : Path)
      → l.verb ≡ verbs.Lock → p.train ≢ t
      → BoxStep b (box_at (Serve t l) None) (Lock b.number (Locked p))
      (Lock b.number (Locked p)) (box_at (Say t l (No p.train)) None)

abbrev pub same_train : TrainId → TrainId → Bool
same_train t u = t.0 == u.0

abbrev pub same_path : Path → Path → Bool
same_path p q = p.train.0 == q.train.0 && (p.x.0 == q.x.0 && p.y.0 == q.y.0)

-- the letter with an answer to it
abbrev pub answered : Letter → Answer → Option MailWord
answered l Yes = Some (mails.Yes l)
answered l (No u) = if is_refusable l.verb then Some (mails.No l u) else None

-- what a box with this work does with the mail word of train t
abbrev pub mail_turn : BoxTable → TrainId → Work → MailWord → Option (MailWord × Work)
mail_turn b t Ready (mails.Ask l) =
    if l.to.0 == b.number.0 && has_arms b l then Some (mails.Taken l, Serve t l) else None
mail_turn b t Ready mails.Empty = None
mail_turn b t Ready (mails.Taken l) = None
mail_turn b t Ready (mails.Yes l) = None
mail_turn b t Ready (mails.No l u) = None
mail_turn b t (Serve to l) v = None
mail_turn b t (Say to l answer) (mails.Taken asked) =
    if same_train t to && same_letter asked l then option_map (λ v. (v, Ready)) (answered l answer) else None
mail_turn b t (Say to l answer) mails.Empty = None
mail_turn b t (Say to l answer) (mails.Ask asked) = None
mail_turn b t (Say to l answer) (mails.Yes asked) = None
mail_turn b t (Say to l answer) (mails.No asked u) = None

-- what a box that serves the letter does with its reservation word, by who holds the arm: the word, and the answer
abbrev pub resv_turn : TrainId → Letter → Verb → ResvWord → Option TrainId → Option (ResvWord × Answer)
resv_turn t l verbs.Reserve w None = Some (with_arm w l.x.0 (Some t), Yes)
resv_turn t l verbs.Reserve w (Some u) = if same_train u t then None else Some (w, No u)
resv_turn t l verbs.Release w None = None
resv_turn t l verbs.Release w (Some u) = if same_train u t then Some (with_arm w l.x.0 None, Yes) else None
resv_turn t l verbs.Lock w arm = None
resv_turn t l verbs.Unlock w arm = None

abbrev pub on_resv : Work → ResvWord → Option (ResvWord × Work)
on_resv Ready w = None
on_resv (Serve t l) w = option_map (λ r. (r.0, Say t l r.1)) (resv_turn t l l.verb w (arm_in w l.x.0))
on_resv (Say t l answer) w = None

-- what a box that serves the letter, and waits for no points, does with its lock word
abbrev pub lock_turn : BoxTable → TrainId → Letter → Verb → LockWord → Option (LockWord × BoxMind)
lock_turn b t l verbs.Reserve v = None
lock_turn b t l verbs.Release v = None
lock_turn b t l verbs.Lock (Free side) =
    if connects b l side
    then Some (Locked (path_of t l), box_at (Say t l Yes) None)
    else (if connects b l (other_side side) then Some
    (Asked (path_of t l), box_at Ready (Some (path_of t l))) else None)
lock_turn b t l verbs.Lock (Asked p) = None
lock_turn b t l verbs.Lock (Moving p) = None
lock_turn b t l verbs.Lock (Moved p) = None
lock_turn b t l verbs.Lock (Locked p) =
    if same_train p.train t then None else Some (Locked p, box_at (Say t l (No p.train)) None)
lock_turn b t l verbs.Unlock (Free side) = None
lock_turn b t l verbs.Unlock (Asked p) = None
lock_turn b t l verbs.Unlock (Moving p) = None
lock_turn b t l verbs.Unlock (Moved p) = None
lock_turn b t l verbs.Unlock (Locked p) =
    if same_path p (path_of t l)
    then option_map (λ side. (Free side, box_at (Say t l Yes) None)) (joining_side b.kind l.x.0 l.y.0)
    else None

-- what a box that waits for its points to stand for the path does with its lock word
abbrev pub points_turn : BoxTable → Path → LockWord → Option (LockWord × BoxMind)
points_turn b p (Free side) = None
points_turn b p (Asked q) = None
points_turn b p (Moving q) = None
points_turn b p (Moved q) =
    if same_path q p
    then Some (Locked p, box_at (Say p.train (about_passage b.number verbs.Lock p.x p.y) Yes) None)
    else None
points_turn b p (Locked q) = None

abbrev pub on_lock : BoxTable → Work → Option Path → LockWord → Option (LockWord × BoxMind)
on_lock b Ready None v = None
on_lock b Ready (Some p) v = points_turn b p v
on_lock b (Serve t l) None v = lock_turn b t l l.verb v
on_lock b (Serve t l) (Some p) v = None
on_lock b (Say t l answer) waiting v = None

-- what a box does with a word: with its own reservation and lock words, and with mail words
abbrev pub box_on : BoxTable → BoxMind → Word → Option (Word × BoxMind)
box_on b mind (Resv c v) =
    if c.0 == b.number.0 then option_map (λ r. (Resv c r.0, box_at r.1 mind.waiting)) (on_resv mind.work v) else None
box_on b mind (Lock c v) =
    if c.0 == b.number.0 then option_map (λ r. (Lock c r.0, r.1)) (on_lock b mind.work mind.waiting v) else None
box_on b mind (Mail t v) = option_map (λ r. (Mail t r.0, box_at r.1 mind.waiting)) (mail_turn b t mind.work v)
box_on b mind (Run t v) = None
box_on b mind (Sense t v) = None

-- the same of payloads
unfoldable pub box_step : BoxTable → BoxMind → WordKind → ℕ → Option (ℕ × BoxMind)
box_step b mind = packed_step (box_on b mind)

-- the scan places of a ready box: the mail words of all trains, in order, and then its own lock word
abbrev pub scan_place : Layout → BoxTable → ℕ → WordKind
scan_place lay b scan = if nat_lt scan lay.trains then kinds.Mail (record { 0 = scan }) else kinds.Lock b.number

abbrev pub verb_target : BoxTable → Verb → WordKind
verb_target b verbs.Reserve = kinds.Resv b.number
verb_target b verbs.Release = kinds.Resv b.number
verb_target b verbs.Lock = kinds.Lock b.number
verb_target b verbs.Unlock = kinds.Lock b.number

abbrev pub work_target : Layout → BoxTable → Work → ℕ → WordKind
work_target lay b Ready scan = scan_place lay b scan
work_target lay b (Serve t l) scan = verb_target b l.verb
work_target lay b (Say t l answer) scan = kinds.Mail t

-- the word at which the box looks, with its scan place while it is ready
abbrev pub box_target : Layout → BoxTable → BoxMind → ℕ → WordKind
box_target lay b mind scan = work_target lay b mind.work scan
