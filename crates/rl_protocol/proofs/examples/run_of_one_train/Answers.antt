use Rattle.rl_protocol.proofs.ExampleRun.{railway, begun, whole, arrived}
use Rattle.rl_protocol.proofs.examples.run_of_one_train.Goals as goal

pub returns-clause-railway : goal.returns-clause-railway
returns-clause-railway c = railway

pub returns-clause-begun : goal.returns-clause-begun
returns-clause-begun c = begun

pub returns-clause-run : goal.returns-clause-run
returns-clause-run c = whole

pub returns-clause-rests : goal.returns-clause-rests
returns-clause-rests c = arrived
