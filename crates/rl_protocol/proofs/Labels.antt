-- Each line of the sentences of the minds is a step of the whole state.
use Rattle.std.proofs.Common.{◌≡◌, ℕ, ◌+◌, ◌==◌, Bool, true, false, not, ◌&&◌, ◌||◌, length, slice_get, Option, Some, None, option_and_then, refl, sym, ap, ◌∙◌, subst, arith}
use Rattle.std.specs.Prelude.{unwrap_or}
use Rattle.std.specs.Option.{option_map_or}
use Rattle.rl_base.specs.declared.job.Job.TheVariants.{Pass, Unlock}
use Rattle.rl_words.specs.declared.mail.MailWord.{MailWord}
use Rattle.rl_base.specs.declared.layout.NodeKind.TheVariants as nodes
use Rattle.rl_words.specs.declared.mail.Letter.{Letter}
use Rattle.rl_words.specs.declared.mail.MailWord.TheVariants as mails
use Rattle.rl_words.specs.declared.run.RunWord.TheVariants as runs
use Rattle.rl_words.specs.declared.sense.SenseWord.TheVariants as senses
use Rattle.rl_words.specs.Word.{Word}
use Rattle.rl_words.specs.Word.Word.{Mail, Run, Sense}
use Rattle.rl_tables.specs.declared.table.StepRow.{StepRow}
use Rattle.rl_tables.specs.declared.table.TrainTable.{TrainTable}
use Rattle.rl_tables.specs.declared.table.Tables.{Tables}
use Rattle.rl_train.specs.declared.mind.TrainMind.{TrainMind}
use Rattle.rl_train.specs.Mind.{looks_on, at_rest}
use Rattle.rl_train.specs.Steps.{TrainStep}
use Rattle.rl_train.specs.Steps as trains
use Rattle.rl_train.specs.Steps.TrainStep.{post as posts, hear_yes as hears_yes, hear_no as hears_no, go as goes, quiet as quiets}
use Rattle.rl_track.specs.declared.track.TrackMind.{TrackMind}
use Rattle.rl_track.specs.declared.machine.MachineMind.{MachineMind}
use Rattle.rl_track.specs.Track.{TrackStep}
use Rattle.rl_track.specs.Track.TrackStep.{enter as enters, head as heads, leave as leaves_it, tail as tails}
use Rattle.rl_track.specs.Machine.{MachineStep}
use Rattle.rl_track.specs.Machine.MachineStep.{throw as throws, settle as settles}
use Rattle.rl_protocol.specs.Line.{Line}
use Rattle.rl_train.specs.Jobs.{looks_ahead, letter, after_no, is_pass, is_near}
use Rattle.rl_protocol.specs.State.{State, put}
use Rattle.rl_protocol.specs.Minds.{train, box, at_rest as line_at_rest, looks_on as line_looks_on, row_of, letter_of, heard}
use Rattle.rl_protocol.specs.Steps.{post, hear_yes, hear_no, go, quiet, throw, settle, enter, head, leave, tail}
use Rattle.rl_protocol.specs.TableLine.{no_row, line_of}
use Rattle.rl_protocol.specs.Sentences.{StateSays, with_train, with_track, MakesStep}

-- the row and the number of steps of a train that is there
row_is : (tables : Tables) (t : ℕ) (table : TrainTable) (mind : TrainMind) (row : StepRow) → slice_get tables.trains t ≡ Some table
    → slice_get table.rows mind.step ≡ Some row → row_of (line_of tables) t mind ≡ row
row_is tables t table mind row e f =
    ap (λ o. unwrap_or (option_and_then (λ (x : TrainTable). slice_get x.rows mind.step) o) no_row) e ∙ ap (λ o. unwrap_or o no_row) f

steps_are : (tables : Tables) (t : ℕ) (table : TrainTable) → slice_get tables.trains t ≡ Some table → (line_of tables).steps t ≡ length table.rows
steps_are tables t table e = ap (λ o. option_map_or (λ (x : TrainTable). length x.rows) o 0) e

-- whether the step after a train's own looks ahead: a row that isn't there doesn't
pub looks_on_is : (tables : Tables) (t : ℕ) (table : TrainTable) (mind : TrainMind) → slice_get tables.trains t ≡ Some table
    → line_looks_on (line_of tables) t mind ≡ looks_on table mind
looks_on_is tables t table mind e =
    ap (λ o. looks_ahead (unwrap_or (option_and_then (λ (x : TrainTable). slice_get x.rows (mind.step + 1)) o) no_row)) e
    ∙ by_row (slice_get table.rows (mind.step + 1))
  where
    by_row : (o : Option StepRow) → looks_ahead (unwrap_or o no_row) ≡ option_map_or looks_ahead o false
    by_row None = refl
    by_row (Some row) = refl

resting_is : (tables : Tables) (t : ℕ) (table : TrainTable) (mind : TrainMind) → slice_get tables.trains t ≡ Some table → at_rest table mind ≡ false
    → line_at_rest (line_of tables) t mind ≡ false
resting_is tables t table mind e h =
    ap (λ n. not mind.waits && is_near mind.job && (mind.step == n || mind.left == 0)) (steps_are tables t table e)
    ∙ turned (not mind.waits) (is_near mind.job) (mind.step == length table.rows || mind.left == 0) h
  where
    turned : (x y z : Bool) → (y && (x && z)) ≡ false → (x && y && z) ≡ false
    turned x y z h = grind arith

module _ (tables : Tables) (s : State) (t : ℕ) (table : TrainTable) (there : slice_get tables.trains t ≡ Some table) (number : table.number ≡ train t) where
  letter_is : (row : StepRow) (l : Letter) → slice_get table.rows (s.trains t).step ≡ Some row → letter row (s.trains t).job ≡ Some l
      → letter_of (line_of tables) t (s.trains t) ≡ Some l
  letter_is row l e f = ap (λ r. letter r (s.trains t).job) (row_is tables t table (s.trains t) row there e) ∙ f

  heard_is : (row : StepRow) → slice_get table.rows (s.trains t).step ≡ Some row
      → heard (line_of tables) t (s.trains t) ≡ trains.heard row (looks_on table (s.trains t)) (s.trains t)
  heard_is row e =
      ap (λ r. trains.heard r (line_looks_on (line_of tables) t (s.trains t)) (s.trains t)) (row_is tables t table (s.trains t) row there e)
      ∙ ap (λ more. trains.heard row more (s.trains t)) (looks_on_is tables t table (s.trains t) there)

  passes_is : (s.trains t).job ≡ Pass → is_pass (s.trains t).job ≡ true
  unfolding is_pass
  passes_is h = ap is_pass h

  mail_makes : (v : MailWord) (mind : TrainMind) → MakesStep (line_of tables) s (nodes.Train (train t)) (Mail (train t) v) (with_train s t mind)
      → MakesStep (line_of tables) s (nodes.Train (train t)) (Mail table.number v) (with_train s t mind)
  mail_makes v mind h = subst (λ n. MakesStep (line_of tables) s (nodes.Train (train t)) (Mail n v) (with_train s t mind)) (sym number) h

  pub train_makes : (w v : Word) (mind : TrainMind) → TrainStep table (s.trains t) w v mind → StateSays s w
      → MakesStep (line_of tables) s (nodes.Train (train t)) v (with_train s t mind)
  train_makes w v mind (posts row l is letter waits rest) has =
      mail_makes (mails.Ask l) mind
      (record {
        step = post t l;
        fits = (waits, resting_is tables t table (s.trains t) there rest, letter_is row l is letter, subst (λ n. s.mail n.0 ≡ mails.Empty) number has);
        by_node = refl;
        on_word = refl;
        leaves = refl;
      })
  train_makes w v mind (hears_yes row l is letter waits) has =
      mail_makes mails.Empty mind
      (record {
        step = hear_yes t l;
        fits = (waits, letter_is row l is letter, subst (λ n. s.mail n.0 ≡ mails.Yes l) number has);
        by_node = refl;
        on_word = refl;
        leaves = ap (λ m. record s { trains = put s.trains t m; mail = put s.mail t mails.Empty }) (heard_is row is);
      })
  train_makes w v mind (hears_no row l holder job is letter after waits) has =
      mail_makes mails.Empty mind
      (record {
        step = hear_no t l holder job;
        fits = (
          waits,
          letter_is row l is letter,
          subst (λ n. s.mail n.0 ≡ mails.No l holder) number has,
          ap (λ r. after_no r (s.trains t).job)
              (row_is tables t table (s.trains t) row there is) ∙ after,
        );
        by_node = refl;
        on_word = refl;
        leaves = refl;
      })
  train_makes w v mind (goes job waits) has =
      subst (λ n. MakesStep (line_of tables) s (nodes.Train (train t)) (Run n (runs.Go (s.trains t).step)) (with_train s t mind)) (sym number)
      (record {
        step = go t;
        fits = (waits, passes_is job, subst (λ n. s.run n.0 ≡ runs.Clear (s.trains t).step) number has);
        by_node = refl;
        on_word = refl;
        leaves = refl;
      })
  train_makes w v mind (quiets job waits) has =
      subst (λ n. MakesStep (line_of tables) s (nodes.Train (train t)) (Sense n (senses.Quiet ((s.trains t).step + 1))) (with_train s t mind)) (sym number)
      (record {
        step = quiet t;
        fits = (waits, passes_is job, subst (λ n. s.sense n.0 ≡ senses.Tail (s.trains t).step) number has);
        by_node = refl;
        on_word = refl;
        leaves = refl;
      })

-- a track has no table, nor has a machine
pub track_makes : (line : Line) (s : State) (t : ℕ) (before : TrackMind) (w v : Word) (mind : TrackMind) → s.tracks t ≡ before
    → TrackStep (train t) before w v mind → StateSays s w → MakesStep line s (nodes.Track (train t)) v (with_track s t mind)
track_makes line s t before w v mind is (enters k) has = record { step = enter t k; fits = (is, has); by_node = refl; on_word = refl; leaves = refl }
track_makes line s t before w v mind is (heads k) has = record { step = head t k; fits = (is, has); by_node = refl; on_word = refl; leaves = refl }
track_makes line s t before w v mind is (leaves_it k) has = record { step = leave t k; fits = (is, has); by_node = refl; on_word = refl; leaves = refl }
track_makes line s t before w v mind is (tails k) has = record { step = tail t k; fits = (is, has); by_node = refl; on_word = refl; leaves = refl }

pub machine_makes : (line : Line) (s : State) (b : ℕ) (before mind : MachineMind) (w v : Word) → MachineStep (box b) before w v mind → StateSays s w
    → MakesStep line s (nodes.Machine (box b)) v s
machine_makes line s b before mind w v (throws m p) has = record { step = throw b p; fits = has; by_node = refl; on_word = refl; leaves = refl }
machine_makes line s b before mind w v (settles m p) has = record { step = settle b p; fits = has; by_node = refl; on_word = refl; leaves = refl }
