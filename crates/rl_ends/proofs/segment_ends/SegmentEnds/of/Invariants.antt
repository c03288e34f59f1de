use Rattle.std.proofs.Common.{◌≡◌, length, take}
use Rattle.rl_drafts.specs.Drafts.{ends_from}
use Rattle.rl_ends.specs.SegmentEnds.{KeepsPairs}
use Rattle.rl_ends.proofs.segment_ends.SegmentEnds.of.Given as goal

abbrev pub invariant-loop-b : goal.invariant-loop-b
invariant-loop-b l =
    (length l.table.pairs.items ≡ length l.draft.segments) × KeepsPairs l.draft.segments l.table.pairs.items (ends_from 0 (take l.b l.draft.boxes))
