-- Minds in a step: the letter of a train and its mind after an answer, and a box that serves.
use Rattle.std.specs.Prelude.{ℕ, ◌+◌, ◌==◌, Bool, false, not, ◌&&◌, ◌||◌, Option, None}
use Rattle.rl_base.specs.declared.ids.BoxId.{BoxId}
use Rattle.rl_base.specs.declared.ids.TrainId.{TrainId}
use Rattle.rl_base.specs.declared.job.Job.TheVariants.{Unlock}
use Rattle.rl_base.specs.declared.job.Verb.TheVariants as verbs
use Rattle.rl_words.specs.declared.lock.Path.{Path}
use Rattle.rl_words.specs.declared.mail.Letter.{Letter}
use Rattle.rl_words.specs.Mail.{about_passage}
use Rattle.rl_tables.specs.declared.table.StepRow.{StepRow}
use Rattle.rl_train.specs.declared.mind.TrainMind.{TrainMind}
use Rattle.rl_box.specs.declared.mind.BoxMind.{BoxMind}
use Rattle.rl_box.specs.declared.mind.Work.TheVariants.{Serve}
use Rattle.rl_box.specs.Mind.{box_at}
use Rattle.rl_protocol.specs.Line.{Line}
use Rattle.rl_train.specs.Jobs.{looks_ahead, letter, is_near}
use Rattle.rl_train.specs.Steps as trains

-- the train, and the box, of a number
abbrev pub train : ℕ → TrainId
train t = record { 0 = t }

abbrev pub box : ℕ → BoxId
box b = record { 0 = b }

-- the letter that asks box b for a path
abbrev pub letter_of_path : ℕ → Path → Letter
letter_of_path b p = about_passage (box b) verbs.Lock p.x p.y

-- the row of the step at which a train is, and the letter of its job there
abbrev pub row_of : Line → ℕ → TrainMind → StepRow
row_of line t m = line.row t m.step

abbrev pub letter_of : Line → ℕ → TrainMind → Option Letter
letter_of line t m = letter (row_of line t m) m.job

-- a train rests where it is about to begin an attempt, and its route or its attempts are at their end
abbrev pub at_rest : Line → ℕ → TrainMind → Bool
at_rest line t m = not m.waits && is_near m.job && (m.step == line.steps t || m.left == 0)

-- the step after its own looks ahead
abbrev pub looks_on : Line → ℕ → TrainMind → Bool
looks_on line t m = looks_ahead (line.row t (m.step + 1))

-- the mind after the answer Yes, at the row of its step
abbrev pub heard : Line → ℕ → TrainMind → TrainMind
heard line t m = trains.heard (row_of line t m) (looks_on line t m) m

-- and after the passage
abbrev pub passed : TrainMind → TrainMind
passed m = record m { waits = false; job = Unlock }

-- the arms that the letter names are arms of its box
abbrev pub names_arms : Line → Letter → Bool
names_arms line l = line.has_arm l.to.0 l.x.0 && line.has_arm l.to.0 l.y.0

-- a box that serves the letter of train t and waits for no points
abbrev pub serving : ℕ → Letter → BoxMind
serving t l = box_at (Serve (train t) l) None
