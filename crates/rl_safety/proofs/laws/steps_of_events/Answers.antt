use Rattle.rl_safety.proofs.Runs.{run_stepped}
use Rattle.rl_safety.proofs.laws.steps_of_events.Goals as goal

pub returns : goal.returns
returns c = λ tables tries events line few run.
    run_stepped
    record {
      steps = record {
        tables = c.usable_tables.ensures;
        trains = c.train_steps.ensures;
        tracks = c.track_steps.ensures;
        boxes = c.box_steps.ensures;
        machines = c.machine_steps.ensures;
      };
      words = record { reads = c.words.ensures.reads; only = c.words.ensures.only };
    }
    record {
      resv = c.readings.ensures.resv;
      lock = c.readings.ensures.lock;
      mail = c.readings.ensures.mail;
      run = c.readings.ensures.run;
      sense = c.readings.ensures.sense;
    }
    c.agreement.ensures.runs tables tries events line (c.lines_of_tables.ensures.consistent tables line) few run
