use Rattle.rl_nodes.proofs.Staying.{topped_up_stay}
use Rattle.rl_nodes.proofs.laws.topped_up_nodes.Goals as goal

pub returns : goal.returns
returns c = topped_up_stay
