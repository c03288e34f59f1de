use Rattle.std.proofs.Common.{◌≡◌, ◌++◌, take, flat_map}
use Rattle.rl_jam.specs.JamText.{wait_line}
use Rattle.rl_jam.proofs.text.put_waits.Given as goal

-- the lines of the rows before have been appended
abbrev pub invariant-loop-row : goal.invariant-loop-row
invariant-loop-row l = l.out ≡ l.initial.out ++ flat_map (wait_line l.net) (take l.row-index l.rows)
