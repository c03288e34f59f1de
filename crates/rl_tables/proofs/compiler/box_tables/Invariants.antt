use Rattle.rl_tables.specs.Tables.{IsListOf, IsBoxTable}
use Rattle.rl_tables.proofs.compiler.box_tables.Given as goal

abbrev pub invariant-loop-b : goal.invariant-loop-b
invariant-loop-b l = IsListOf l.b (IsBoxTable l.net) l.tables
