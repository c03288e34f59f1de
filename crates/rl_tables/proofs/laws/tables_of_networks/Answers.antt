use Rattle.rl_tables.proofs.Only.{only_tables}
use Rattle.rl_tables.proofs.Lines.{is_line}
use Rattle.rl_tables.proofs.Ranges.{row_there}
use Rattle.rl_tables.proofs.Holders.{holder_is}
use Rattle.rl_tables.proofs.laws.tables_of_networks.Goals as goal

pub returns-clause-only : goal.returns-clause-only
returns-clause-only c = only_tables

pub returns-clause-line : goal.returns-clause-line
returns-clause-line c = is_line

pub returns-clause-rows : goal.returns-clause-rows
returns-clause-rows c = row_there

pub returns-clause-holders : goal.returns-clause-holders
returns-clause-holders c = holder_is
