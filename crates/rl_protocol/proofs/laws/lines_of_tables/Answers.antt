use Rattle.rl_protocol.proofs.TableLines.{consistent_line, few_trains, railway_of_tables}
use Rattle.rl_protocol.proofs.laws.lines_of_tables.Goals as goal

pub returns : goal.returns
returns c = record { consistent = consistent_line; trains = few_trains; railway = railway_of_tables }
