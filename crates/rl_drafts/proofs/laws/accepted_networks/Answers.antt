use Rattle.rl_drafts.proofs.Networks.{IsNetwork-accepted}
use Rattle.rl_drafts.proofs.laws.accepted_networks.Goals as goal

pub returns : goal.returns
returns c = record { network = IsNetwork-accepted }
