use Rattle.std.proofs.Common.{◌≡◌, ◌++◌, drop}
use Rattle.rl_plan.specs.PlanText.{level_lines}
use Rattle.rl_plan.proofs.text.put_levels.Given as goal

-- with the lines of the segments that are left the text is whole
abbrev pub invariant-loop-s : goal.invariant-loop-s
invariant-loop-s l = l.out ++ level_lines l.net l.s (drop l.s l.levels) ≡ l.initial.out ++ level_lines l.net 0 l.levels
