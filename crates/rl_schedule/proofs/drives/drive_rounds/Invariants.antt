use Rattle.std.specs.List.{repeat, range_with_len}
use Rattle.rl_base.specs.Layout.{node_count}
use Rattle.rl_tables.specs.Starts.{layout_of}
use Rattle.rl_schedule.specs.Driven.{GoesOn}
use Rattle.rl_schedule.proofs.drives.drive_rounds.Given as goal

abbrev pub invariant-loop-i : goal.invariant-loop-i
invariant-loop-i l =
    GoesOn l.fn.core l.fn.moves.items (repeat l.i (range_with_len 0 (node_count (layout_of l.fn.core.line)))) l.core l.moves.items
