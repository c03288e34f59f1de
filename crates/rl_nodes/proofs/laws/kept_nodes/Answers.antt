use Rattle.rl_nodes.proofs.Staying.{nodes_stay}
use Rattle.rl_nodes.proofs.laws.kept_nodes.Goals as goal

pub returns : goal.returns
returns c = nodes_stay
