use Rattle.std.proofs.Common.{◌+◌, cond}
use Rattle.rl_plan.specs.Marking.{unmarked}
use Rattle.rl_plan.specs.Searching.{IsSearched}
use Rattle.rl_plan.proofs.search.search.Given as goal

-- what the rounds so far have found
abbrev pub invariant-loop-more : goal.invariant-loop-more
invariant-loop-more l = IsSearched l.net l.fn.to.0 l.n l.more l.levels

-- each round but the last gives a level to a segment that has none
abbrev pub decreases-loop-more : goal.decreases-loop-more
decreases-loop-more l = cond l.more (unmarked l.levels + 1) 0
