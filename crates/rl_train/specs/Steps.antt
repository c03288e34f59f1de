-- The steps of a train: first as sentences, one for each line of the table of steps, then as a function.
use Rattle.std.specs.Prelude.{◌≡◌, ℕ, ◌+◌, ◌-◌, ◌==◌, Bool, true, false, not, ◌&&◌, ◌||◌, Option, Some, None, option_map}
use Rattle.std.specs.Prelude.{option_and_then, if◌then◌else◌}
use Rattle.rl_base.specs.declared.ids.TrainId.{TrainId}
use Rattle.rl_base.specs.declared.job.Job.{Job}
use Rattle.rl_base.specs.declared.job.Job.TheVariants.{Pass, Unlock}
use Rattle.rl_base.specs.declared.layout.WordKind.{WordKind}
use Rattle.rl_base.specs.declared.layout.WordKind.TheVariants as kinds
use Rattle.rl_words.specs.declared.mail.Letter.{Letter}
use Rattle.rl_words.specs.declared.mail.MailWord.{MailWord}
use Rattle.rl_words.specs.declared.mail.MailWord.TheVariants.{Empty, Ask, Taken, Yes, No}
use Rattle.rl_words.specs.declared.run.RunWord.{RunWord}
use Rattle.rl_words.specs.declared.run.RunWord.TheVariants.{Clear, Go, Across}
use Rattle.rl_words.specs.declared.sense.SenseWord.{SenseWord}
use Rattle.rl_words.specs.declared.sense.SenseWord.TheVariants.{Quiet, Head, Tail}
use Rattle.rl_words.specs.Word.{Word, packed_step}
use Rattle.rl_words.specs.Word.Word.{Resv, Lock, Mail, Run, Sense}
use Rattle.rl_tables.specs.declared.table.StepRow.{StepRow}
use Rattle.rl_tables.specs.declared.table.TrainTable.{TrainTable}
use Rattle.rl_train.specs.declared.mind.TrainMind.{TrainMind}
use Rattle.rl_train.specs.Jobs.{letter, after_yes, after_no, reopens, asks, is_near, is_pass, ends_step}
use Rattle.rl_train.specs.Mind.{row_of, looks_on, at_rest}

-- the mind after a post, which in Near uses up an attempt
abbrev pub posted : TrainMind → TrainMind
posted mind = record mind { waits = true; left = if is_near mind.job then mind.left - 1 else mind.left }

-- the mind after yes, which at the end of a step that looked ahead uses up the next attempt; `more` says that the row
-- after this one looks ahead
abbrev pub heard : StepRow → (more : Bool) → TrainMind → TrainMind
heard row more mind =
    record mind {
      waits = false;
      job = after_yes row more (mind.left == 0) mind.job;
      step =
          if ends_step mind.job then mind.step + 1 else mind.step;
      left =
          if reopens row (mind.left == 0) mind.job then mind.left - 1 else mind.left;
    }

-- after no, with the job that comes then
abbrev pub denied : Job → TrainMind → TrainMind
denied next mind = record mind { waits = false; job = next; refused = mind.refused + 1 }

-- The step of a train with this table and mind, line by line: the word that it sees and what it says there, what it
-- says after the step, and the mind after it.
pub data TrainStep (table : TrainTable) (mind : TrainMind) : Word → Word → TrainMind → Type 0 where
  -- it asks a box for what its job wants
  post :
      (row : StepRow) (l : Letter)
      → row_of table mind ≡ Some row → letter row mind.job ≡ Some l → mind.waits ≡ false
      → at_rest table mind ≡ false
      → TrainStep table mind (Mail table.number Empty) (Mail table.number (Ask l)) (posted mind)
  -- the box has said yes to its letter
  hear_yes :
      (row : StepRow) (l : Letter)
      → row_of table mind ≡ Some row → letter row mind.job ≡ Some l → mind.waits ≡ true
      → TrainStep table mind (Mail table.number (Yes l)) (Mail table.number Empty)
      (heard row (looks_on table mind) mind)
  -- the box has said no, since another train holds what it asked for
  hear_no :
      (row : StepRow) (l : Letter) (holder : TrainId) (next : Job)
      → row_of table mind ≡ Some row → letter row mind.job ≡ Some l → after_no row mind.job ≡ Some next
      → mind.waits ≡ true
      → TrainStep table mind (Mail table.number (No l holder)) (Mail table.number Empty) (denied next mind)
  -- it may pass, and goes
  go :
      mind.job ≡ Pass → mind.waits ≡ false
      → TrainStep table mind (Run table.number (Clear mind.step))
      (Run table.number (Go mind.step)) (record mind { waits = true })
  -- the track has reported its tail past the box
  quiet :
      mind.job ≡ Pass → mind.waits ≡ true
      → TrainStep table mind (Sense table.number (Tail mind.step))
      (Sense table.number (Quiet (mind.step + 1))) (record mind { waits = false; job = Unlock })

-- what a train at this row does with its mail word
abbrev pub mail_turn : TrainTable → TrainMind → MailWord → StepRow → Option (MailWord × TrainMind)
mail_turn table mind Empty row =
    if mind.waits || at_rest table mind then None else option_map (λ l. (Ask l, posted mind)) (letter row mind.job)
mail_turn table mind (Ask l) row = None
mail_turn table mind (Taken l) row = None
mail_turn table mind (Yes l) row =
    if mind.waits && asks row mind.job l then Some (Empty, heard row (looks_on table mind) mind) else None
mail_turn table mind (No l holder) row =
    if mind.waits && asks row mind.job l
    then option_map (λ next. (Empty, denied next mind)) (after_no row mind.job)
    else None

abbrev pub on_mail : TrainTable → TrainMind → MailWord → Option (MailWord × TrainMind)
on_mail table mind v = option_and_then (mail_turn table mind v) (row_of table mind)

abbrev pub on_run : TrainMind → RunWord → Option (RunWord × TrainMind)
on_run mind (Clear k) =
    if is_pass mind.job && (not mind.waits && k == mind.step) then Some (Go k, record mind { waits = true }) else None
on_run mind (Go k) = None
on_run mind (Across k) = None

abbrev pub on_sense : TrainMind → SenseWord → Option (SenseWord × TrainMind)
on_sense mind (Quiet k) = None
on_sense mind (Head k) = None
on_sense mind (Tail k) =
    if is_pass mind.job && (mind.waits && k == mind.step)
    then Some (Quiet (k + 1), record mind { waits = false; job = Unlock })
    else None

-- what a train does with a word: with its own mail, run and sense word alone
abbrev pub train_on : TrainTable → TrainMind → Word → Option (Word × TrainMind)
train_on table mind (Resv b v) = None
train_on table mind (Lock b v) = None
train_on table mind (Mail t v) =
    if t.0 == table.number.0 then option_map (λ r. (Mail t r.0, r.1)) (on_mail table mind v) else None
train_on table mind (Run t v) =
    if t.0 == table.number.0 then option_map (λ r. (Run t r.0, r.1)) (on_run mind v) else None
train_on table mind (Sense t v) =
    if t.0 == table.number.0 then option_map (λ r. (Sense t r.0, r.1)) (on_sense mind v) else None

-- the same of payloads
unfoldable pub train_step : TrainTable → TrainMind → WordKind → ℕ → Option (ℕ × TrainMind)
train_step table mind = packed_step (train_on table mind)

-- the word at which the train looks, unless it is at rest
abbrev pub train_target : TrainTable → TrainMind → Option WordKind
train_target table mind =
    if at_rest table mind
    then None
    else (if is_pass mind.job
    then Some (if mind.waits then kinds.Sense table.number else kinds.Run table.number)
    else Some (kinds.Mail table.number))
