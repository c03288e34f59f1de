use Rattle.rl_track.proofs.MachineLemmas.{keeps}
use Rattle.rl_track.proofs.laws.machine_steps.Goals as goal

pub returns : goal.returns
returns c = keeps c.words.ensures.only c.words.ensures.small c.words.ensures.owned
