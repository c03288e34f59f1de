use Rattle.std.proofs.Common.{◌≡◌, map, take}
use Rattle.rl_ends.specs.Parted.{parted_box}
use Rattle.rl_ends.proofs.parting.boxes_from.Given as goal

abbrev pub invariant-loop-x : goal.invariant-loop-x
invariant-loop-x l = l.parted ≡ map parted_box (take l.x-index l.boxes)
