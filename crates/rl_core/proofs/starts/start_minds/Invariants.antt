use Rattle.rl_core.specs.Starts.{AreStartMinds}
use Rattle.rl_core.proofs.starts.start_minds.Given as goal

abbrev pub invariant-loop-n : goal.invariant-loop-n
invariant-loop-n l = AreStartMinds l.line l.tries l.n l.minds.items
