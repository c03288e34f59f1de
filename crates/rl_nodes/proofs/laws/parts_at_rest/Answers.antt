use Rattle.rl_nodes.proofs.Staying.{part_at_rest}
use Rattle.rl_nodes.proofs.laws.parts_at_rest.Goals as goal

pub returns : goal.returns
returns c = part_at_rest
