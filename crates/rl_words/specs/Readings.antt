-- The value of which a payload is the packing, if it is one: the value at its fields, where that fits and packs to it.
use Rattle.std.specs.Prelude.{ℕ, zero, suc, ◌==◌, nat_lt, nat_le, Bool, true, false, not, ◌&&◌, Option, Some, None, if◌then◌else◌}
use Rattle.rl_base.specs.declared.ids.Arm.{Arm}
use Rattle.rl_base.specs.declared.ids.TrainId.{TrainId}
use Rattle.rl_base.specs.declared.limits.TheConstants.{MAX_BOXES, MAX_TRAINS, MAX_STEPS}
use Rattle.rl_base.specs.declared.job.Verb.{Verb}
use Rattle.rl_base.specs.declared.job.Verb.TheVariants.{Reserve, Release, Lock, Unlock}
use Rattle.rl_base.specs.declared.kind.Side.{Side}
use Rattle.rl_base.specs.declared.kind.Side.TheVariants.{Left, Right}
use Rattle.rl_words.specs.declared.lock.LockWord.{LockWord}
use Rattle.rl_words.specs.declared.lock.LockWord.TheVariants.{Free, Asked, Moving, Moved, Locked}
use Rattle.rl_words.specs.declared.lock.Path.{Path}
use Rattle.rl_words.specs.declared.mail.Letter.{Letter}
use Rattle.rl_words.specs.declared.mail.MailWord.{MailWord}
use Rattle.rl_words.specs.declared.mail.MailWord.TheVariants.{Empty, Ask, Taken, Yes, No}
use Rattle.rl_words.specs.declared.resv.ResvWord.{ResvWord}
use Rattle.rl_words.specs.declared.run.RunWord.{RunWord}
use Rattle.rl_words.specs.declared.run.RunWord.TheVariants.{Clear, Go, Across}
use Rattle.rl_words.specs.declared.sense.SenseWord.{SenseWord}
use Rattle.rl_words.specs.declared.sense.SenseWord.TheVariants.{Quiet, Head, Tail}
use Rattle.rl_words.specs.Fields.{field}
use Rattle.rl_words.specs.Lock.{packed_lock}
use Rattle.rl_words.specs.Mail.{packed_mail}
use Rattle.rl_words.specs.Resv.{packed_resv}
use Rattle.rl_words.specs.Run.{packed_run}
use Rattle.rl_words.specs.Sense.{packed_sense}

abbrev pub train_id : ℕ → TrainId
train_id n = record { 0 = n }

abbrev pub arm_id : ℕ → Arm
arm_id n = record { 0 = n }

-- the value, if the test says so
abbrev pub only_if : {A : Type 0} → Bool → A → Option A
only_if test v = if test then Some v else None

-- who holds an arm, by its six bits
abbrev pub arm_at : ℕ → Option TrainId
arm_at zero = None
arm_at (suc t) = Some (train_id t)

abbrev pub resv_at : ℕ → ResvWord
resv_at n =
    record {
      arm0 = arm_at (field n 0 6);
      arm1 = arm_at (field n 6 6);
      arm2 = arm_at (field n 12 6);
      arm3 = arm_at (field n 18 6);
    }

abbrev pub fits_arm : Option TrainId → Bool
fits_arm None = true
fits_arm (Some t) = nat_lt t.0 MAX_TRAINS

abbrev pub fits_resv : ResvWord → Bool
fits_resv w = fits_arm w.arm0 && (fits_arm w.arm1 && (fits_arm w.arm2 && fits_arm w.arm3))

unfoldable pub read_resv : ℕ → Option ResvWord
read_resv n = only_if (fits_resv (resv_at n) && packed_resv (resv_at n) == n) (resv_at n)

abbrev pub path_at : ℕ → Path
path_at n = record { train = train_id (field n 4 5); x = arm_id (field n 9 2); y = arm_id (field n 11 2) }

abbrev pub side_at : ℕ → Side
side_at zero = Left
side_at (suc n) = Right

-- by the tag
abbrev pub lock_tagged : ℕ → Side → Path → LockWord
lock_tagged zero side p = Free side
lock_tagged (suc zero) side p = Asked p
lock_tagged (suc (suc zero)) side p = Moving p
lock_tagged (suc (suc (suc zero))) side p = Moved p
lock_tagged (suc (suc (suc (suc n)))) side p = Locked p

abbrev pub lock_at : ℕ → LockWord
lock_at n = lock_tagged (field n 0 3) (side_at (field n 3 1)) (path_at n)

abbrev pub fits_path : Path → Bool
fits_path p = nat_lt p.train.0 MAX_TRAINS && (nat_lt p.x.0 4 && (nat_lt p.y.0 4 && not (p.x.0 == p.y.0)))

abbrev pub fits_lock : LockWord → Bool
fits_lock (Free side) = true
fits_lock (Asked p) = fits_path p
fits_lock (Moving p) = fits_path p
fits_lock (Moved p) = fits_path p
fits_lock (Locked p) = fits_path p

unfoldable pub read_lock : ℕ → Option LockWord
read_lock n = only_if (fits_lock (lock_at n) && packed_lock (lock_at n) == n) (lock_at n)

abbrev pub verb_at : ℕ → Verb
verb_at zero = Reserve
verb_at (suc zero) = Release
verb_at (suc (suc zero)) = Lock
verb_at (suc (suc (suc n))) = Unlock

abbrev pub letter_at : ℕ → Letter
letter_at n = record {
  to = record { 0 = field n 3 7 };
  verb = verb_at (field n 10 2);
  x = arm_id (field n 12 2);
  y =
      arm_id (field n 14 2);
}

-- by the tag
abbrev pub mail_tagged : ℕ → Letter → TrainId → MailWord
mail_tagged zero l holder = Empty
mail_tagged (suc zero) l holder = Ask l
mail_tagged (suc (suc zero)) l holder = Taken l
mail_tagged (suc (suc (suc zero))) l holder = Yes l
mail_tagged (suc (suc (suc (suc n)))) l holder = No l holder

abbrev pub mail_at : ℕ → MailWord
mail_at n = mail_tagged (field n 0 3) (letter_at n) (train_id (field n 16 5))

abbrev pub fits_arms : Verb → ℕ → ℕ → Bool
fits_arms Reserve x y = y == 0
fits_arms Release x y = y == 0
fits_arms Lock x y = not (x == y)
fits_arms Unlock x y = not (x == y)

abbrev pub fits_letter : Letter → Bool
fits_letter l = nat_lt l.to.0 MAX_BOXES && (nat_lt l.x.0 4 && (nat_lt l.y.0 4 && fits_arms l.verb l.x.0 l.y.0))

abbrev pub is_refusable : Verb → Bool
is_refusable Reserve = true
is_refusable Release = false
is_refusable Lock = true
is_refusable Unlock = false

abbrev pub fits_mail : MailWord → Bool
fits_mail Empty = true
fits_mail (Ask l) = fits_letter l
fits_mail (Taken l) = fits_letter l
fits_mail (Yes l) = fits_letter l
fits_mail (No l holder) = fits_letter l && (is_refusable l.verb && nat_lt holder.0 MAX_TRAINS)

unfoldable pub read_mail : ℕ → Option MailWord
read_mail n = only_if (fits_mail (mail_at n) && packed_mail (mail_at n) == n) (mail_at n)

-- by the tag
abbrev pub run_tagged : ℕ → ℕ → RunWord
run_tagged zero k = Clear k
run_tagged (suc zero) k = Go k
run_tagged (suc (suc n)) k = Across k

abbrev pub run_at : ℕ → RunWord
run_at n = run_tagged (field n 0 2) (field n 2 7)

abbrev pub fits_run : RunWord → Bool
fits_run (Clear k) = nat_le k MAX_STEPS
fits_run (Go k) = nat_lt k MAX_STEPS
fits_run (Across k) = nat_lt k MAX_STEPS

unfoldable pub read_run : ℕ → Option RunWord
read_run n = only_if (fits_run (run_at n) && packed_run (run_at n) == n) (run_at n)

-- by the tag
abbrev pub sense_tagged : ℕ → ℕ → SenseWord
sense_tagged zero k = Quiet k
sense_tagged (suc zero) k = Head k
sense_tagged (suc (suc n)) k = Tail k

abbrev pub sense_at : ℕ → SenseWord
sense_at n = sense_tagged (field n 0 2) (field n 2 7)

abbrev pub fits_sense : SenseWord → Bool
fits_sense (Quiet k) = nat_le k MAX_STEPS
fits_sense (Head k) = nat_lt k MAX_STEPS
fits_sense (Tail k) = nat_lt k MAX_STEPS

unfoldable pub read_sense : ℕ → Option SenseWord
read_sense n = only_if (fits_sense (sense_at n) && packed_sense (sense_at n) == n) (sense_at n)
