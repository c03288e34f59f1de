use Rattle.rl_track.proofs.Glances.{no_report}
use Rattle.rl_track.proofs.laws.track_glances.Goals as goal

pub returns : goal.returns
returns c = no_report c.words.ensures.only
