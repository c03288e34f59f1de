use Rattle.rl_jam.specs.Finding.{AreJamsBelow}
use Rattle.rl_jam.proofs.finding.find_jams.Given as goal

-- the jams that begin with the trains before
abbrev pub invariant-loop-t : goal.invariant-loop-t
invariant-loop-t l = AreJamsBelow l.report l.t l.jams
