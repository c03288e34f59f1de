use Rattle.std.proofs.Common.{arith}
use Rattle.rl_schedule.proofs.laws.nodes_of_networks.Goals as goal

pub returns : goal.returns
returns c = λ net tables are. omega (arith, are.boxes.length_is, are.trains.length_is)
