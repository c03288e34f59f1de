-- A shared word with what it says: any word of any box or train as one value, and its payload.
use Rattle.std.specs.Prelude.{◌≡◌, ℕ, Option, Some, None, option_map, option_and_then}
use Rattle.rl_base.specs.declared.ids.BoxId.{BoxId}
use Rattle.rl_base.specs.declared.ids.TrainId.{TrainId}
use Rattle.rl_base.specs.declared.layout.NodeKind.{NodeKind}
use Rattle.rl_base.specs.declared.layout.NodeKind.TheVariants as nodes
use Rattle.rl_base.specs.declared.layout.WordKind.{WordKind}
use Rattle.rl_base.specs.declared.layout.WordKind.TheVariants as kinds
use Rattle.rl_words.specs.declared.lock.LockWord.{LockWord}
use Rattle.rl_words.specs.declared.mail.MailWord.{MailWord}
use Rattle.rl_words.specs.declared.resv.ResvWord.{ResvWord}
use Rattle.rl_words.specs.declared.run.RunWord.{RunWord}
use Rattle.rl_words.specs.declared.sense.SenseWord.{SenseWord}
use Rattle.rl_words.specs.Lock.{FitsLock, packed_lock}
use Rattle.rl_words.specs.Mail.{FitsMail, packed_mail}
use Rattle.rl_words.specs.Owner.{lock_owner, mail_owner, run_owner, sense_owner}
use Rattle.rl_words.specs.Readings.{read_lock, read_mail, read_resv, read_run, read_sense}
use Rattle.rl_words.specs.Resv.{FitsResv, packed_resv}
use Rattle.rl_words.specs.Run.{FitsRun, packed_run}
use Rattle.rl_words.specs.Sense.{FitsSense, packed_sense}

-- the reservations or the lock of a box; the mail, the run or the sense word of a train
pub data Word : Type 0 where
  Resv : BoxId → ResvWord → Word
  Lock : BoxId → LockWord → Word
  Mail : TrainId → MailWord → Word
  Run : TrainId → RunWord → Word
  Sense : TrainId → SenseWord → Word

abbrev pub kind_of : Word → WordKind
kind_of (Resv b v) = kinds.Resv b
kind_of (Lock b v) = kinds.Lock b
kind_of (Mail t v) = kinds.Mail t
kind_of (Run t v) = kinds.Run t
kind_of (Sense t v) = kinds.Sense t

abbrev pub FitsWord : Word → Type 0
FitsWord (Resv b v) = FitsResv v
FitsWord (Lock b v) = FitsLock v
FitsWord (Mail t v) = FitsMail v
FitsWord (Run t v) = FitsRun v
FitsWord (Sense t v) = FitsSense v

abbrev pub packed_word : Word → ℕ
packed_word (Resv b v) = packed_resv v
packed_word (Lock b v) = packed_lock v
packed_word (Mail t v) = packed_mail v
packed_word (Run t v) = packed_run v
packed_word (Sense t v) = packed_sense v

-- the word of a kind at a payload, if that is a packing of it
abbrev pub read_word : WordKind → ℕ → Option Word
read_word kinds.Still n = None
read_word (kinds.Resv b) n = option_map (Resv b) (read_resv n)
read_word (kinds.Lock b) n = option_map (Lock b) (read_lock n)
read_word (kinds.Mail t) n = option_map (Mail t) (read_mail n)
read_word (kinds.Run t) n = option_map (Run t) (read_run n)
read_word (kinds.Sense t) n = option_map (Sense t) (read_sense n)

-- the node that may change the word
abbrev pub word_owner : Word → NodeKind
word_owner (Resv b v) = nodes.Box b
word_owner (Lock b v) = lock_owner b v
word_owner (Mail t v) = mail_owner t v
word_owner (Run t v) = run_owner t v
word_owner (Sense t v) = sense_owner t v

-- what a node does with a word and what it then has in mind, said of the payloads
abbrev pub packed_step : {M : Type 0} → (Word → Option (Word × M)) → WordKind → ℕ → Option (ℕ × M)
packed_step on kind n = option_and_then (λ word. option_map (λ r. (packed_word r.0, r.1)) (on word)) (read_word kind n)

-- the payload is a packing of a word of the kind
pub record IsReading (kind : WordKind) (payload : ℕ) (word : Word) : Type 0 where
  pub kind_is : kind_of word ≡ kind
  pub fits : FitsWord word
  pub packed : packed_word word ≡ payload

-- a step said of payloads: the payload reads as the word that the node sees, and the new one is the packing of what
-- the step leaves there
pub record PackedStep {M : Type 0} (Step : Word → Word → M → Type 0) (kind : WordKind) (payload new : ℕ) (after : M)
    : Type 0 where
  pub seen : Word
  pub left : Word
  pub reads : read_word kind payload ≡ Some seen
  pub step : Step seen left after
  pub packs : packed_word left ≡ new
