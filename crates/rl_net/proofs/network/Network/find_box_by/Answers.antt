use Rattle.rl_model.specs.declared.network.SwitchBox.{SwitchBox}
use Rattle.rl_net.proofs.Found.{table_at, table_nowhere}
use Rattle.rl_net.proofs.network.Network.find_box_by.Goals as goal

pub returns-in-Some-clause-some : goal.returns-in-Some-clause-some
returns-in-Some-clause-some c =
    rw (← c.self.view_is) (table_at
    (λ (x : SwitchBox). x.name) c.self.inside.plan.boxes c.self.inside.names.boxes c.args.name.now c.in-Some.b c.self.invariant.boxes
    c.in-Some.ensures.number)

pub returns-in-None-clause-none : goal.returns-in-None-clause-none
returns-in-None-clause-none c =
    rw (← c.self.view_is) (table_nowhere
    (λ (x : SwitchBox). x.name) c.self.inside.plan.boxes c.self.inside.names.boxes c.args.name.now c.self.invariant.boxes c.in-None.ensures.number)
