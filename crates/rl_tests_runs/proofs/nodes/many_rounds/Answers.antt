use Rattle.rl_nodes.proofs.Crossing.{sent}
use Rattle.rl_tests_runs.proofs.nodes.many_rounds.Goals as goal

pub rounds-requires-send-T : goal.rounds-requires-send-T
rounds-requires-send-T g c κs = λ outlives. search sent depth 60 fits 20000
