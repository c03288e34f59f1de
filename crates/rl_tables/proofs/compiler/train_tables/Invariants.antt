use Rattle.rl_tables.specs.Tables.{IsListOf, IsTrainTable}
use Rattle.rl_tables.proofs.compiler.train_tables.Given as goal

abbrev pub invariant-loop-t : goal.invariant-loop-t
invariant-loop-t l = IsListOf l.t (IsTrainTable l.net) l.tables
