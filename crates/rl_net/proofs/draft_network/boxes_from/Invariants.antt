use Rattle.std.proofs.Common.{◌≡◌, map, take}
use Rattle.rl_drafts.specs.Drafts.{box_of}
use Rattle.rl_net.proofs.draft_network.boxes_from.Given as goal

abbrev pub invariant-loop-x : goal.invariant-loop-x
invariant-loop-x l = l.boxes ≡ map (box_of l.index) (take l.x-index l.index.boxes)
