use Rattle.rl_jam.proofs.Shared.{share_none}
use Rattle.rl_jam.proofs.laws.jams_share_no_train.Goals as goal

pub returns : goal.returns
returns c = share_none
