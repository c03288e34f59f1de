use Rattle.rl_core.proofs.Watching.{watches_put}
use Rattle.rl_core.proofs.cores.Core.put.Goals as goal

pub invariant_of-self : goal.invariant_of-self
invariant_of-self c = (
  rw (← c.self.view_is) at c.requires.reached,
  watches_put c.self.inside.line.now c.self.inside.minds.items c.self.inside.watches.items c.args.node.0 c.args.mind
      (rw (← c.self.view_is) at c.requires.node) c.self.invariant.1,
)
