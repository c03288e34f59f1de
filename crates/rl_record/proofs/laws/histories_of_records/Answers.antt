use Rattle.rl_record.proofs.Gathered.{history_of_record}
use Rattle.rl_record.proofs.laws.histories_of_records.Goals as goal

pub returns : goal.returns
returns c = history_of_record
