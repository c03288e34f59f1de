use Rattle.std.proofs.Common.{◌≡◌, ◌-◌, ◌++◌, map, drop, length}
use Rattle.rl_drafts.specs.Drafts.{box_number, every_other}
use Rattle.rl_net.proofs.draft_network.route_boxes.Given as goal

abbrev pub invariant-loop-k : goal.invariant-loop-k
invariant-loop-k l = l.ids ++ map (box_number l.index) (every_other (drop l.k l.route)) ≡ map (box_number l.index) (every_other (drop 1 l.route))

abbrev pub decreases-loop-k : goal.decreases-loop-k
decreases-loop-k l = length l.route - l.k
