use Rattle.rl_track.proofs.Glances.{no_move}
use Rattle.rl_track.proofs.laws.machine_glances.Goals as goal

pub returns : goal.returns
returns c = no_move c.words.ensures.only
