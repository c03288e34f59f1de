use Rattle.rl_record.proofs.Gathered.{histories_in_order}
use Rattle.rl_record.proofs.laws.records_by_node.Goals as goal

pub returns : goal.returns
returns c = histories_in_order
