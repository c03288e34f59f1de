use Rattle.rl_model.specs.declared.network.Segment.{Segment}
use Rattle.rl_net.proofs.Found.{table_at, table_nowhere}
use Rattle.rl_net.proofs.network.Network.find_seg_by.Goals as goal

pub returns-in-Some-clause-some : goal.returns-in-Some-clause-some
returns-in-Some-clause-some c =
    rw (← c.self.view_is) (table_at
    (λ (x : Segment). x.name) c.self.inside.plan.segments c.self.inside.names.segments c.args.name.now c.in-Some.s c.self.invariant.segments
    c.in-Some.ensures.number)

pub returns-in-None-clause-none : goal.returns-in-None-clause-none
returns-in-None-clause-none c =
    rw (← c.self.view_is) (table_nowhere
    (λ (x : Segment). x.name) c.self.inside.plan.segments c.self.inside.names.segments c.args.name.now c.self.invariant.segments c.in-None.ensures.number)
