use Rattle.rl_tables.specs.Tables.{IsListOf, IsStepRow}
use Rattle.rl_tables.proofs.compiler.step_rows.Given as goal

abbrev pub invariant-loop-k : goal.invariant-loop-k
invariant-loop-k l = IsListOf l.k (IsStepRow l.net l.t.0) l.rows
