use Rattle.std.proofs.Common.{◌≡◌, ◌++◌, take, flat_map}
use Rattle.rl_tables.specs.TablesText.{train_lines}
use Rattle.rl_tables.proofs.text.put_trains.Given as goal

abbrev pub invariant-loop-x : goal.invariant-loop-x
invariant-loop-x l = l.out ≡ l.initial.out ++ flat_map (train_lines l.net) (take l.x-index l.x-items)
