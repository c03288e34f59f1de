use Rattle.std.proofs.Common.{sym}
use Rattle.std.proofs.lemmas.Option.{get_or_from_slice_get}
use Rattle.rl_core.proofs.Reached.{place_within}
use Rattle.rl_core.proofs.cores.Core.scan.Goals as goal

pub returns-clause-place : goal.returns-clause-place
returns-clause-place c = sym (get_or_from_slice_get c.args.self.now.scans c.args.node.0 c.scan_at.result 0 c.scan_at.ensures)

pub returns-clause-within : goal.returns-clause-within
returns-clause-within c =
    rw (sym (get_or_from_slice_get c.args.self.now.scans c.args.node.0 c.scan_at.result 0 c.scan_at.ensures))
    (place_within c.args.self.now c.args.node.0 c.reached.ensures c.requires)
