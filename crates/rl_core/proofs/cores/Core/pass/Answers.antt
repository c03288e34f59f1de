use Rattle.std.proofs.Common.{slice_index_or}
use Rattle.rl_core.proofs.Reached.{reached_advanced}
use Rattle.rl_core.proofs.Turned.{next_told}
use Rattle.rl_core.proofs.cores.Core.pass.Goals as goal

pub put_scan-requires-clause-reached : goal.put_scan-requires-clause-reached
put_scan-requires-clause-reached c =
    let next = next_told c.args.self.now.line (slice_index_or c.args.self.now.scans c.args.node.0 0) c.args.glance c.in-Scans.field-0 c.in-Scans.was
    c.in-Scans.next c.in-Scans.is c.requires.next in
    rw next (reached_advanced c.args.self.now c.args.node.0 c.reached.ensures c.requires.there)
