use Rattle.std.proofs.Common.{◌≡◌, ◌++◌, drop}
use Rattle.rl_ends.specs.EndsDrafts.{joined_boxes}
use Rattle.rl_ends.proofs.joining.boxes_from.Given as goal

abbrev pub invariant-loop-b : goal.invariant-loop-b
invariant-loop-b l = l.boxes ++ joined_boxes l.draft l.b (drop l.b l.draft.boxes) ≡ joined_boxes l.draft 0 l.draft.boxes
