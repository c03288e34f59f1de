use Rattle.std.proofs.Common.{◌≡◌, map, take}
use Rattle.rl_ends.specs.Parted.{parted_segment}
use Rattle.rl_ends.proofs.parting.segments_from.Given as goal

abbrev pub invariant-loop-s : goal.invariant-loop-s
invariant-loop-s l = l.segments ≡ map (parted_segment l.draft) (take l.s l.draft.segments)
