use Rattle.std.proofs.Common.{replicate}
use Rattle.rl_schedule.specs.Driven.{GoesOn}
use Rattle.rl_schedule.proofs.drives.drive_turns.Given as goal

abbrev pub invariant-loop-i : goal.invariant-loop-i
invariant-loop-i l = GoesOn l.fn.core l.fn.moves.items (replicate l.i l.node.0) l.core l.moves.items
