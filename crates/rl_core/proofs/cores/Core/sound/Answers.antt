use Rattle.rl_core.proofs.Reached.{reached_sound}
use Rattle.rl_core.proofs.cores.Core.sound.Goals as goal

pub returns-clause-sound : goal.returns-clause-sound
returns-clause-sound c = reached_sound c.sound_runs.ensures c.args.self.now c.reached.ensures
