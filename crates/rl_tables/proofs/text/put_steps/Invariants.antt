use Rattle.std.proofs.Common.{◌≡◌, ◌++◌, drop}
use Rattle.rl_tables.specs.TablesText.{step_lines}
use Rattle.rl_tables.proofs.text.put_steps.Given as goal

abbrev pub invariant-loop-k : goal.invariant-loop-k
invariant-loop-k l = l.out ++ step_lines l.net l.k (drop l.k l.rows) ≡ l.initial.out ++ step_lines l.net 0 l.rows
