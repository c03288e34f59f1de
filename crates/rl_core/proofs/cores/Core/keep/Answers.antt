use Rattle.rl_core.proofs.Watching.{watches_kept}
use Rattle.rl_core.proofs.cores.Core.keep.Goals as goal

pub invariant_of-self : goal.invariant_of-self
invariant_of-self c = (
  c.self.invariant.0,
  watches_kept c.self.inside.line.now c.self.inside.minds.items c.self.inside.watches.items c.args.n.0 c.args.watch
      (rw (← c.self.view_is) at c.requires.there) c.self.invariant.1 (rw (← c.self.view_is) at c.requires.watch),
)
