use Rattle.rl_tests_runs.specs.declared.boxes.TheConstants.{LAYOUT, POINT}
use Rattle.rl_box.specs.Mind.{IsBoxMind}
use Rattle.rl_tests_runs.proofs.boxes.serves_two_trains.Given as goal

abbrev pub invariant-loop-w : goal.invariant-loop-w
invariant-loop-w g l = IsBoxMind LAYOUT POINT l.mind
