use Rattle.rl_model.specs.declared.network.Train.{Train}
use Rattle.rl_net.proofs.Found.{table_at, table_nowhere}
use Rattle.rl_net.proofs.network.Network.find_train_by.Goals as goal

pub returns-in-Some-clause-some : goal.returns-in-Some-clause-some
returns-in-Some-clause-some c =
    rw (← c.self.view_is) (table_at
    (λ (x : Train). x.name) c.self.inside.plan.trains c.self.inside.names.trains c.args.name.now c.in-Some.t c.self.invariant.trains
    c.in-Some.ensures.number)

pub returns-in-None-clause-none : goal.returns-in-None-clause-none
returns-in-None-clause-none c =
    rw (← c.self.view_is) (table_nowhere
    (λ (x : Train). x.name) c.self.inside.plan.trains c.self.inside.names.trains c.args.name.now c.self.invariant.trains c.in-None.ensures.number)
