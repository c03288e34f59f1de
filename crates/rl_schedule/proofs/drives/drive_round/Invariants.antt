use Rattle.std.specs.List.{range_with_len}
use Rattle.rl_schedule.specs.Driven.{GoesOn}
use Rattle.rl_schedule.proofs.drives.drive_round.Given as goal

abbrev pub invariant-loop-n : goal.invariant-loop-n
invariant-loop-n l = GoesOn l.fn.core l.fn.moves.items (range_with_len 0 l.n) l.core l.moves.items
