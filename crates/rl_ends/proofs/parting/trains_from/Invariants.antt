use Rattle.std.proofs.Common.{◌≡◌, take}
use Rattle.rl_ends.proofs.parting.trains_from.Given as goal

abbrev pub invariant-loop-t : goal.invariant-loop-t
invariant-loop-t l = l.copies ≡ take l.t-index l.trains
