use Rattle.std.proofs.Common.{ℕ, ◌<◌}
use Rattle.rl_plan.specs.Marking.{IsGrown, MarksFrom}
use Rattle.rl_plan.proofs.marking.mark_round.Given as goal

-- what the segments so far changed
abbrev pub invariant-loop-s : goal.invariant-loop-s
invariant-loop-s l = IsGrown l.net l.n l.more l.initial.levels l.levels
    × ((r : ℕ) → r < l.s → MarksFrom l.net l.n l.initial.levels l.levels r)
