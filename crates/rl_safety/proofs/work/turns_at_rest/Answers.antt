use Rattle.rl_steps.specs.Run.{state}
use Rattle.rl_steps.proofs.Keeping.{StepsKeep}
use Rattle.rl_steps.proofs.Sounding.{runs_minded}
use Rattle.rl_safety.proofs.Rests.{rest_exactly}
use Rattle.rl_safety.proofs.work.turns_at_rest.Goals as goal

pub returns : goal.returns
returns c = λ tables tries d n line few run there.
    let keeps : StepsKeep = record {
      tables = c.usable_tables.ensures;
      trains = c.train_steps.ensures;
      tracks = c.track_steps.ensures;
      boxes = c.box_steps.ensures;
      machines = c.machine_steps.ensures;
    } in
    rest_exactly tables (state tables tries d.events) d n there (runs_minded keeps tables tries d.events line few run)
