use Rattle.rl_steps.proofs.FromCalls.{train_number}
use Rattle.rl_steps.proofs.targets.train_target.Goals as goal

pub target-requires-clause-there : goal.target-requires-clause-there
target-requires-clause-there c =
    rw c.layout-lay.ensures.layout (train_number c.args.line.now c.args.t.0 c.train_table.result.now c.layout-lay.ensures.line c.train_table.ensures.there)
