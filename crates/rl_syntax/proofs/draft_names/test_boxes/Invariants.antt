use Rattle.std.proofs.Common.{◌≡◌, drop}
use Rattle.rl_syntax.specs.Condition.{first, of_list}
use Rattle.rl_syntax.specs.NameConditions.{of_box}
use Rattle.rl_syntax.proofs.draft_names.test_boxes.Given as goal

-- what is left decides
abbrev pub invariant-loop-i : goal.invariant-loop-i
invariant-loop-i l = first (of_list of_box 0 l.boxes) ≡ first (of_list of_box l.i (drop l.i l.boxes))
