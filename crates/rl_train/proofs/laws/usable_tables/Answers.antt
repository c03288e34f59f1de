use Rattle.rl_train.proofs.Usable.{usable}
use Rattle.rl_train.proofs.laws.usable_tables.Goals as goal

pub returns : goal.returns
returns c = usable
