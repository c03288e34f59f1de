use Rattle.rl_core.proofs.Reached.{reached_advanced}
use Rattle.rl_core.proofs.cores.Core.advance.Goals as goal

pub put_scan-requires-clause-reached : goal.put_scan-requires-clause-reached
put_scan-requires-clause-reached c =
    rw (c.next_place-place.ensures.place, c.line.ensures, c.scan.ensures.place) (reached_advanced c.args.self.now c.args.node.0 c.reached.ensures c.requires)
