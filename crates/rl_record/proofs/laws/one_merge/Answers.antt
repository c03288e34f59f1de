use Rattle.rl_record.proofs.Falling.{one_merge}
use Rattle.rl_record.proofs.laws.one_merge.Goals as goal

pub returns : goal.returns
returns c = one_merge
