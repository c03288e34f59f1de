-- The state of all nodes and all words, and how it is at the start.
use Rattle.std.specs.Prelude.{ℕ, ◌==◌, ◌&&◌, if◌then◌else◌, Option}
use Rattle.rl_base.specs.declared.ids.TrainId.{TrainId}
use Rattle.rl_words.specs.declared.lock.LockWord.{LockWord}
use Rattle.rl_words.specs.declared.lock.LockWord.TheVariants.{Free}
use Rattle.rl_words.specs.declared.mail.MailWord.{MailWord}
use Rattle.rl_words.specs.declared.mail.MailWord.TheVariants.{Empty}
use Rattle.rl_words.specs.declared.run.RunWord.{RunWord}
use Rattle.rl_words.specs.declared.run.RunWord.TheVariants.{Clear}
use Rattle.rl_words.specs.declared.sense.SenseWord.{SenseWord}
use Rattle.rl_words.specs.declared.sense.SenseWord.TheVariants.{Quiet}
use Rattle.rl_train.specs.declared.mind.TrainMind.{TrainMind}
use Rattle.rl_train.specs.Mind.{start_train}
use Rattle.rl_box.specs.declared.mind.BoxMind.{BoxMind}
use Rattle.rl_box.specs.Mind.{start_box}
use Rattle.rl_track.specs.declared.track.TrackMind.{TrackMind}
use Rattle.rl_track.specs.Track.{start_track}
use Rattle.rl_protocol.specs.Line.{Line}

-- the minds of trains, tracks and boxes, and the words of boxes and trains. A point machine remembers nothing.
-- The reservation word of a box is seen arm by arm
pub record State : Type 0 where
  pub trains : ℕ → TrainMind
  pub tracks : ℕ → TrackMind  -- train
  pub boxes : ℕ → BoxMind
  pub resv : ℕ → ℕ → Option TrainId  -- box, arm
  pub lock : ℕ → LockWord  -- box
  pub mail : ℕ → MailWord  -- train
  pub run : ℕ → RunWord  -- train
  pub sense : ℕ → SenseWord  -- train

-- at the start each train holds its first segment at both its ends, boxes stand as written, and nobody asks anything
abbrev pub start : Line → ℕ → State
start line tries =
    record {
      trains = λ t. start_train tries;
      tracks = λ t. start_track;
      boxes = λ b. start_box;
      resv = line.first_holder;
      lock = λ b. Free (line.side b);
      mail = λ t. Empty;
      run = λ t. Clear 0;
      sense = λ t. Quiet 0;
    }

-- the function with the value v at n
abbrev pub put : {A : Type 0} → (ℕ → A) → ℕ → A → ℕ → A
put f n v m = if m == n then v else f m

-- the function of two numbers with the value v at n and k
abbrev pub put_at : {A : Type 0} → (ℕ → ℕ → A) → ℕ → ℕ → A → ℕ → ℕ → A
put_at f n k v m j = if m == n && j == k then v else f m j
