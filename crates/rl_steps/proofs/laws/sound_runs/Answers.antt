use Rattle.rl_steps.proofs.Sounding.{runs_sound}
use Rattle.rl_steps.proofs.laws.sound_runs.Goals as goal

pub returns : goal.returns
returns c = runs_sound record {
  tables = c.usable_tables.ensures;
  trains = c.train_steps.ensures;
  tracks = c.track_steps.ensures;
  boxes = c.box_steps.ensures;
  machines = c.machine_steps.ensures;
}
