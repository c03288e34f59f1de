-- Each step of a train and of its track is a step of the protocol.
use Rattle.std.proofs.Common.{◌≡◌, ℕ, ◌==◌, Bool, true, false, not, ◌&&◌, ◌||◌, length, Some, refl}
use Rattle.rl_base.specs.declared.ids.TrainId.{TrainId}
use Rattle.rl_base.specs.declared.job.Job.{Job}
use Rattle.rl_base.specs.declared.job.Job.TheVariants.{Pass}
use Rattle.rl_base.specs.declared.layout.NodeKind.TheVariants as nodes
use Rattle.rl_words.specs.declared.mail.Letter.{Letter}
use Rattle.rl_words.specs.declared.run.RunWord.TheVariants.{Go, Across}
use Rattle.rl_words.specs.Word.{Word}
use Rattle.rl_tables.specs.declared.table.StepRow.{StepRow}
use Rattle.rl_tables.specs.declared.table.TrainTable.{TrainTable}
use Rattle.rl_tables.specs.declared.table.Tables.{Tables}
use Rattle.rl_train.specs.declared.mind.TrainMind.{TrainMind}
use Rattle.rl_train.specs.Mind.{row_of, looks_on, at_rest}
use Rattle.rl_train.specs.Steps as trains
use Rattle.rl_train.specs.Steps.{TrainStep}
use Rattle.rl_train.specs.Steps.TrainStep.{post, hear_yes, hear_no, go, quiet}
use Rattle.rl_track.specs.declared.track.TrackMind.{TrackMind}
use Rattle.rl_track.specs.declared.track.TrackPhase.TheVariants.{Watch, LeaveDue}
use Rattle.rl_track.specs.Track.{TrackStep, track_at}
use Rattle.rl_track.specs.Track.TrackStep.{enter, head, leave, tail}
use Rattle.rl_steps.specs.declared.mind.Mind.TheVariants.{Train, Track}
use Rattle.rl_train.specs.Jobs.{letter, after_no, is_pass, is_near}
use Rattle.rl_protocol.specs.Minds as minds
use Rattle.rl_protocol.specs.State.{State}
use Rattle.rl_protocol.specs.Steps.Step.{post as post_label, hear_yes as hear_yes_label, hear_no as hear_no_label, go as go_label, quiet as quiet_label}
use Rattle.rl_protocol.specs.Steps.Step.{enter as enter_label, head as head_label, leave as leave_label, tail as tail_label}
use Rattle.rl_protocol.specs.TableLine.{line_of, row_at}
use Rattle.rl_protocol.specs.Sentences.{StateSays}
use Rattle.rl_safety.proofs.Labels.{IsLabel}

-- a train of the tables, as the state has it
pub record IsTrainHere (tables : Tables) (s : State) (x : TrainTable) (m : TrainMind) : Type 0 where
  pub mind : s.trains x.number.0 ≡ m
  pub steps : (line_of tables).steps x.number.0 ≡ length x.rows
  pub row : (row : StepRow) → row_of x m ≡ Some row → (line_of tables).row x.number.0 m.step ≡ row
  pub on : minds.looks_on (line_of tables) x.number.0 m ≡ looks_on x m

swapped : (a b c : Bool) → (a && (b && c)) ≡ false → (b && a && c) ≡ false
swapped true true c e = e
swapped true false c e = refl
swapped false true c e = refl
swapped false false c e = refl

rests_not : (tables : Tables) (s : State) (x : TrainTable) (m : TrainMind) → IsTrainHere tables s x m → at_rest x m ≡ false
    → minds.at_rest (line_of tables) x.number.0 m ≡ false
rests_not tables s x m here not_resting = rw here.steps (swapped (is_near m.job) (not m.waits) (m.step == length x.rows || m.left == 0) not_resting)

letter_is : (tables : Tables) (s : State) (x : TrainTable) (m : TrainMind) (row : StepRow) (l : Letter) → IsTrainHere tables s x m
    → row_of x m ≡ Some row → letter row m.job ≡ Some l → minds.letter_of (line_of tables) x.number.0 m ≡ Some l
letter_is tables s x m row l here is_row is_letter = rw (here.row row is_row) is_letter

heard_is : (tables : Tables) (s : State) (x : TrainTable) (m : TrainMind) (row : StepRow) → IsTrainHere tables s x m → row_of x m ≡ Some row
    → minds.heard (line_of tables) x.number.0 m ≡ trains.heard row (looks_on x m) m
heard_is tables s x m row here is_row = rw (here.row row is_row, here.on) refl

after_no_is : (tables : Tables) (s : State) (x : TrainTable) (m : TrainMind) (row : StepRow) (job : Job) → IsTrainHere tables s x m
    → row_of x m ≡ Some row → after_no row m.job ≡ Some job → after_no (minds.row_of (line_of tables) x.number.0 m) m.job ≡ Some job
after_no_is tables s x m row job here is_row is_job = rw (here.row row is_row) is_job

passes_is : (m : TrainMind) → m.job ≡ Pass → is_pass m.job ≡ true
unfolding is_pass
passes_is m is = rw is refl

pub train_label : (tables : Tables) (s : State) (x : TrainTable) (m after : TrainMind) (seen left : Word) → IsTrainHere tables s x m → StateSays s seen
    → TrainStep x m seen left after → IsLabel tables s (nodes.Train x.number) (Train after) seen left
train_label tables s x m after seen left here says (post row l is_row is_letter waits rests) =
    record {
      step = post_label x.number.0 l;
      fits = (rw here.mind waits, rw here.mind (rests_not tables s x m here rests), rw here.mind (letter_is tables s x m row l here is_row is_letter), says);
      leaves = rw here.mind refl;
      moves = refl;
      by = refl;
    }
train_label tables s x m after seen left here says (hear_yes row l is_row is_letter waits) =
    record {
      step = hear_yes_label x.number.0 l;
      fits = (rw here.mind waits, rw here.mind (letter_is tables s x m row l here is_row is_letter), says);
      leaves = rw (here.mind, heard_is tables s x m row here is_row) refl;
      moves = refl;
      by = refl;
    }
train_label tables s x m after seen left here says (hear_no row l u job is_row is_letter is_job waits) =
    record {
      step = hear_no_label x.number.0 l u job;
      fits = (
        rw here.mind waits,
        rw here.mind (letter_is tables s x m row l here is_row is_letter),
        says,
        rw here.mind
            (after_no_is tables s x m row job here is_row is_job),
      );
      leaves = rw here.mind refl;
      moves = refl;
      by = refl;
    }
train_label tables s x m after seen left here says (go is_pass waits) =
    record {
      step = go_label x.number.0;
      fits = (rw here.mind waits, rw here.mind (passes_is m is_pass), rw here.mind says);
      leaves = rw here.mind refl;
      moves = refl;
      by = refl;
    }
train_label tables s x m after seen left here says (quiet is_pass waits) =
    record {
      step = quiet_label x.number.0;
      fits = (rw here.mind waits, rw here.mind (passes_is m is_pass), rw here.mind says);
      leaves = rw here.mind refl;
      moves = refl;
      by = refl;
    }

-- the track of a train, which passes a step that the train has
pub track_label : (tables : Tables) (s : State) (t : TrainId) (m after : TrackMind) (seen left : Word) → s.tracks t.0 ≡ m → StateSays s seen
    → ((k : ℕ) → m ≡ track_at k Watch → s.run t.0 ≡ Go k → row_at tables t.0 k ≡ Some ((line_of tables).row t.0 k))
    → ((k : ℕ) → m ≡ track_at k LeaveDue → s.run t.0 ≡ Across k → row_at tables t.0 k ≡ Some ((line_of tables).row t.0 k))
    → TrackStep t m seen left after → IsLabel tables s (nodes.Track t) (Track after) seen left
track_label tables s t m after seen left mind says enters leaves (enter k) =
    record { step = enter_label t.0 k; fits = (mind, says); leaves = refl; moves = rw (enters k refl says) refl; by = refl }
track_label tables s t m after seen left mind says enters leaves (head k) =
    record { step = head_label t.0 k; fits = (mind, says); leaves = refl; moves = refl; by = refl }
track_label tables s t m after seen left mind says enters leaves (leave k) =
    record { step = leave_label t.0 k; fits = (mind, says); leaves = refl; moves = rw (leaves k refl says) refl; by = refl }
track_label tables s t m after seen left mind says enters leaves (tail k) =
    record { step = tail_label t.0 k; fits = (mind, says); leaves = refl; moves = refl; by = refl }
