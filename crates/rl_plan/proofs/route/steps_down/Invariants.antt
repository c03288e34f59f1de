use Rattle.rl_plan.proofs.Building.{IsBuilt}
use Rattle.rl_plan.proofs.route.steps_down.Given as goal

-- what the steps so far come to
abbrev pub invariant-loop-k : goal.invariant-loop-k
invariant-loop-k l = IsBuilt l.net l.levels l.fn.from.0 l.n l.k l.s l.route
