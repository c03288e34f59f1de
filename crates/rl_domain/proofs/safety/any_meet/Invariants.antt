use Rattle.std.proofs.Common.{◌≡◌, length}
use Rattle.rl_domain.specs.States.{any_meet}
use Rattle.rl_domain.proofs.safety.any_meet.Given as goal

abbrev pub invariant-loop-rest : goal.invariant-loop-rest
invariant-loop-rest l = any_meet l.rest ≡ any_meet l.trains

abbrev pub decreases-loop-rest : goal.decreases-loop-rest
decreases-loop-rest l = length l.rest
