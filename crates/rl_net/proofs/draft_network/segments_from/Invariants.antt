use Rattle.std.proofs.Common.{◌≡◌, map, take}
use Rattle.rl_drafts.specs.Drafts.{segment_of}
use Rattle.rl_net.proofs.draft_network.segments_from.Given as goal

abbrev pub invariant-loop-i : goal.invariant-loop-i
invariant-loop-i l = l.segments ≡ map (segment_of l.draft) (take l.i l.draft.segments)
