use Rattle.rl_core.specs.Worlds.{AreBoxStates}
use Rattle.rl_core.proofs.cores.Core.box_states.Given as goal

abbrev pub invariant-loop-b : goal.invariant-loop-b
invariant-loop-b l = AreBoxStates l.net l.self l.b l.boxes
