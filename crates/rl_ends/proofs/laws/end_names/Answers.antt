use Rattle.rl_ends.proofs.EndNames.{end_of-reads, end_of-says}
use Rattle.rl_ends.proofs.laws.end_names.Goals as goal

pub returns : goal.returns
returns c = record { reads = end_of-reads; says = end_of-says }
