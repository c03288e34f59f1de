use Rattle.rl_core.proofs.Reached.{reached_made}
use Rattle.rl_core.proofs.cores.Core.step.Goals as goal

pub put-requires-clause-reached : goal.put-requires-clause-reached
put-requires-clause-reached c =
    rw c.event-event.ensures
    (reached_made c.args.self.now c.args.node.0 c.args.w.0 c.args.was c.args.payload c.args.mind c.reached.ensures c.requires.there c.requires.few c.requires.word
    c.requires.step)
