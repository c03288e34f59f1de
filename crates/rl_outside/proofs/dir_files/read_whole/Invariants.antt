use Rattle.std.proofs.Common.{◌-◌, length}
use Rattle.rl_outside.proofs.Reading.{HasRead}
use Rattle.rl_outside.proofs.dir_files.read_whole.Given as goal

abbrev pub invariant-loop-bytes : goal.invariant-loop-bytes
invariant-loop-bytes g l = HasRead (g.F.Read.remaining l.initial.file) (g.F.Read.remaining l.file) l.bytes.items l.limit

abbrev pub decreases-loop-bytes : goal.decreases-loop-bytes
decreases-loop-bytes g l = l.limit - length l.bytes.items
