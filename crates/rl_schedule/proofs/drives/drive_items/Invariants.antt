use Rattle.std.proofs.Common.{take}
use Rattle.rl_base.specs.Layout.{node_count}
use Rattle.rl_tables.specs.Starts.{layout_of}
use Rattle.rl_schedule.specs.Driven.{GoesOn}
use Rattle.rl_schedule.specs.Turns.{turns_of}
use Rattle.rl_schedule.proofs.drives.drive_items.Given as goal

abbrev pub invariant-loop-i : goal.invariant-loop-i
invariant-loop-i l =
    GoesOn l.fn.core l.fn.moves.items (turns_of (node_count (layout_of l.fn.core.line)) (take l.i l.schedule)) l.core l.moves.items
