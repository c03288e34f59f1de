use Rattle.std.proofs.Common.{take}
use Rattle.rl_jam.specs.Finding.{AreLast}
use Rattle.rl_jam.proofs.refusals.note_all.Given as goal

-- the last refusals of the moves before
abbrev pub invariant-loop-k : goal.invariant-loop-k
invariant-loop-k l = AreLast (take l.k l.moves) l.last
