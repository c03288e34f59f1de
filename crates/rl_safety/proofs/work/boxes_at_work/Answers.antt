use Rattle.std.proofs.Common.{◌≡◌, ℕ, false, Some, ⊎_elim}
use Rattle.std.proofs.lemmas.Bool.{cases_Bool}
use Rattle.rl_base.specs.Tries.{AreFewTries}
use Rattle.rl_base.specs.declared.ids.BoxId.{BoxId}
use Rattle.rl_base.specs.declared.layout.NodeKind.TheVariants as nodes
use Rattle.rl_record.specs.declared.event.Event.{Event}
use Rattle.rl_record.specs.declared.event.Turn.TheVariants.{Moved}
use Rattle.rl_tables.specs.declared.table.Tables.{Tables}
use Rattle.rl_tables.specs.Kept.{IsLine}
use Rattle.rl_tables.specs.Starts.{layout_of}
use Rattle.rl_steps.specs.Numbers.{node_at}
use Rattle.rl_steps.specs.Run.{IsRun, state}
use Rattle.rl_steps.specs.Step.{is_ready}
use Rattle.rl_steps.specs.Turn.{Drive, answer_of}
use Rattle.rl_steps.proofs.Keeping.{StepsKeep}
use Rattle.rl_steps.proofs.Sounding.{runs_minded}
use Rattle.rl_safety.proofs.AskedSteps.{asked_can_step}
use Rattle.rl_safety.proofs.AtWork.{WorkLaws, busy_moves}
use Rattle.rl_safety.proofs.Readable.{runs_size}
use Rattle.rl_safety.proofs.work.boxes_at_work.Goals as goal

pub returns : goal.returns
returns c =
    let keeps : StepsKeep = record {
      tables = c.usable_tables.ensures;
      trains = c.train_steps.ensures;
      tracks = c.track_steps.ensures;
      boxes = c.box_steps.ensures;
      machines = c.machine_steps.ensures;
    } in
    let laws : WorkLaws = record {
      words = record { reads = c.words.ensures.reads; only = c.words.ensures.only };
      lines = c.box_lines.ensures;
      at_work = c.sentences_as_steps.ensures.at_work;
      asked = c.sentences_as_steps.ensures.asked;
    } in
    let moves : (tables : Tables) (tries : ℕ) (d : Drive) (n : ℕ) (b : BoxId) → IsLine tables → AreFewTries tries → IsRun tables tries d.events
    → node_at (layout_of tables) n ≡ Some (nodes.Box b) → is_ready ((state tables tries d.events).minds n) ≡ false
    → (e : Event) × (answer_of tables tries d n ≡ Moved e) = λ tables tries d n b line few run at busy.
    busy_moves laws tables tries (state tables tries d.events) line (c.agreement.ensures tables tries d.events line few run)
    (c.readable_words.ensures tables tries d.events line few run) (runs_size tables tries d.events)
    (runs_minded keeps tables tries d.events line few run) d n b at busy in
    record {
      moves = moves;
      idles = λ tables tries d n b word line few run at idles.
          ⊎_elim (λ ready. ready) (λ busy. let moved = moves tables tries d n b line few run at busy in absurd (cc (moved.1)))
          (cases_Bool (is_ready ((state tables tries d.events).minds n)));
      asked = λ tables tries events n t l line few run at ready mail.
          asked_can_step laws tables tries (state tables tries events) line (c.agreement.ensures tables tries events line few run)
          (runs_minded keeps tables tries events line few run) n t l at ready mail;
    }
