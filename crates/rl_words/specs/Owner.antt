-- The owner of a word: at each value, the one node that may change it.
use Rattle.std.specs.Prelude.{◌≡◌, ℕ}
use Rattle.rl_base.specs.declared.ids.BoxId.{BoxId}
use Rattle.rl_base.specs.declared.ids.TrainId.{TrainId}
use Rattle.rl_base.specs.declared.layout.Layout.{Layout}
use Rattle.rl_base.specs.declared.layout.NodeKind.{NodeKind}
use Rattle.rl_base.specs.declared.layout.NodeKind.TheVariants.{Train, Track, Box, Machine}
use Rattle.rl_base.specs.declared.layout.WordKind.{WordKind}
use Rattle.rl_base.specs.declared.layout.WordKind.TheVariants.{Still, Resv, Lock, Mail, Run, Sense}
use Rattle.rl_base.specs.Layout.{word_number, HasWord, node_number, HasNode}
use Rattle.rl_words.specs.declared.lock.LockWord.{LockWord}
use Rattle.rl_words.specs.declared.lock.LockWord.TheVariants.{Free, Asked, Moving, Moved, Locked}
use Rattle.rl_words.specs.declared.mail.MailWord.{MailWord}
use Rattle.rl_words.specs.declared.mail.MailWord.TheVariants.{Empty, Ask, Taken, Yes, No}
use Rattle.rl_words.specs.declared.resv.ResvWord.{ResvWord}
use Rattle.rl_words.specs.declared.run.RunWord.{RunWord}
use Rattle.rl_words.specs.declared.run.RunWord.TheVariants.{Clear, Go, Across}
use Rattle.rl_words.specs.declared.sense.SenseWord.{SenseWord}
use Rattle.rl_words.specs.declared.sense.SenseWord.TheVariants.{Quiet, Head, Tail}
use Rattle.rl_words.specs.Lock.{FitsLock, packed_lock}
use Rattle.rl_words.specs.Mail.{FitsMail, packed_mail}
use Rattle.rl_words.specs.Resv.{FitsResv, packed_resv}
use Rattle.rl_words.specs.Run.{FitsRun, packed_run}
use Rattle.rl_words.specs.Sense.{FitsSense, packed_sense}

-- the lock word of a box is the machine's while it is asked or moving
abbrev pub lock_owner : BoxId → LockWord → NodeKind
lock_owner b (Free side) = Box b
lock_owner b (Asked p) = Machine b
lock_owner b (Moving p) = Machine b
lock_owner b (Moved p) = Box b
lock_owner b (Locked p) = Box b

-- the mail word of a train is the box's from the ask to the answer
abbrev pub mail_owner : TrainId → MailWord → NodeKind
mail_owner t Empty = Train t
mail_owner t (Ask l) = Box l.to
mail_owner t (Taken l) = Box l.to
mail_owner t (Yes l) = Train t
mail_owner t (No l holder) = Train t

-- the run word of a train is the track's while the train is to go or is across
abbrev pub run_owner : TrainId → RunWord → NodeKind
run_owner t (Clear k) = Train t
run_owner t (Go k) = Track t
run_owner t (Across k) = Track t

-- the sense word of a train is the track's until the tail has come past
abbrev pub sense_owner : TrainId → SenseWord → NodeKind
sense_owner t (Quiet k) = Track t
sense_owner t (Head k) = Track t
sense_owner t (Tail k) = Train t

-- the payload is a value of the word at which the word is the node's to change
abbrev pub MayChange : WordKind → ℕ → NodeKind → Type 0
MayChange Still payload node = ⊥
MayChange (Resv b) payload node = (v : ResvWord) × FitsResv v × (packed_resv v ≡ payload) × (node ≡ Box b)
MayChange (Lock b) payload node = (v : LockWord) × FitsLock v × (packed_lock v ≡ payload) × (node ≡ lock_owner b v)
MayChange (Mail t) payload node = (v : MailWord) × FitsMail v × (packed_mail v ≡ payload) × (node ≡ mail_owner t v)
MayChange (Run t) payload node = (v : RunWord) × FitsRun v × (packed_run v ≡ payload) × (node ≡ run_owner t v)
MayChange (Sense t) payload node = (v : SenseWord) × FitsSense v × (packed_sense v ≡ payload) × (node ≡ sense_owner t v)

-- node number n may change word number w at the payload
pub record Owns (lay : Layout) (w payload n : ℕ) : Type 0 where
  pub word : WordKind
  pub node : NodeKind
  pub has_word : HasWord lay word
  pub has_node : HasNode lay node
  pub word_is : word_number lay word ≡ w
  pub node_is : node_number lay node ≡ n
  pub changes : MayChange word payload node
