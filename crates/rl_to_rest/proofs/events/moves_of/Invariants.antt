use Rattle.std.proofs.Common.{◌≡◌}
use Rattle.rl_core.specs.Replays.{before}
use Rattle.rl_safety.specs.Moves.{moves_of}
use Rattle.rl_to_rest.proofs.events.moves_of.Given as goal

abbrev pub invariant-loop-e : goal.invariant-loop-e
invariant-loop-e l = l.moves ≡ moves_of l.line (before l.events l.e-index)
