use Rattle.std.proofs.Common.{refl}
use Rattle.std.specs.Fmt.{digits}
use Rattle.rl_tables.proofs.ExampleTables.{example_tables, example_point}
use Rattle.rl_tables.proofs.examples.tables_of_examples.Goals as goal

pub returns-clause-tables : goal.returns-clause-tables
returns-clause-tables c = example_tables

pub returns-clause-point : goal.returns-clause-point
returns-clause-point c = example_point

pub returns-clause-text : goal.returns-clause-text
unfolding digits
returns-clause-text c = refl
