use Rattle.std.proofs.Common.{◌≡◌, drop}
use Rattle.rl_syntax.specs.Condition.{first, of_list}
use Rattle.rl_syntax.specs.NameConditions.{of_train}
use Rattle.rl_syntax.proofs.draft_names.test_trains.Given as goal

-- what is left decides
abbrev pub invariant-loop-i : goal.invariant-loop-i
invariant-loop-i l = first (of_list of_train 0 l.trains) ≡ first (of_list of_train l.i (drop l.i l.trains))
