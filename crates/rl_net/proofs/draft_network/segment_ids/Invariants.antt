use Rattle.std.proofs.Common.{◌≡◌, map, take}
use Rattle.rl_drafts.specs.Drafts.{segment_number}
use Rattle.rl_net.proofs.draft_network.segment_ids.Given as goal

abbrev pub invariant-loop-name : goal.invariant-loop-name
invariant-loop-name l = l.ids ≡ map (segment_number l.index) (take l.name-index l.names)
