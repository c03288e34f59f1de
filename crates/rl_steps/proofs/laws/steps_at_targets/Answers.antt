use Rattle.rl_steps.proofs.Keeping.{step_keeps}
use Rattle.rl_steps.proofs.laws.steps_at_targets.Goals as goal

pub returns : goal.returns
returns c = λ tables n w payload new mind after line has step. (step_keeps record {
  tables = c.usable_tables.ensures;
  trains = c.train_steps.ensures;
  tracks = c.track_steps.ensures;
  boxes = c.box_steps.ensures;
  machines = c.machine_steps.ensures;
} tables n w payload mind (new, after) line has step).looks
