use Rattle.rl_train.specs.Mind.{IsUsable, IsTrainMind}
use Rattle.rl_tests_runs.proofs.trains.makes_a_step.Given as goal

abbrev pub invariant-loop-payload : goal.invariant-loop-payload
invariant-loop-payload g l = IsTrainMind l.table l.mind
