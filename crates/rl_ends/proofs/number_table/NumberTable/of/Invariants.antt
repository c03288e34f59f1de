use Rattle.std.proofs.Common.{◌≤◌, length, map}
use Rattle.rl_ends.proofs.Numbers.{HasNumbersFrom}
use Rattle.rl_ends.proofs.number_table.NumberTable.of.Given as goal

abbrev pub invariant-loop-i : goal.invariant-loop-i
invariant-loop-i g l = (l.i ≤ length l.items) × HasNumbersFrom l.table.numbers.entries l.i (map g.T.Named.name_of l.items)

abbrev pub decreases-loop-i : goal.decreases-loop-i
decreases-loop-i g l = l.i
