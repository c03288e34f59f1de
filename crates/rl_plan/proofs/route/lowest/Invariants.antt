use Rattle.rl_plan.specs.Choosing.{IsLowestOf}
use Rattle.rl_plan.proofs.route.lowest.Given as goal

-- the lowest at the arms so far
abbrev pub invariant-loop-y : goal.invariant-loop-y
invariant-loop-y l = IsLowestOf l.net l.levels l.b.0 l.s.0 l.n l.y l.best
