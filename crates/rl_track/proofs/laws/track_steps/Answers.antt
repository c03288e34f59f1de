use Rattle.rl_track.proofs.TrackLemmas.{keeps}
use Rattle.rl_track.proofs.laws.track_steps.Goals as goal

pub returns : goal.returns
returns c = keeps c.words.ensures.only c.words.ensures.small c.words.ensures.owned
