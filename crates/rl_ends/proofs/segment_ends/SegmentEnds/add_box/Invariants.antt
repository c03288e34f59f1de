use Rattle.std.proofs.Common.{◌≡◌, ℕ, List, ◌++◌, length, take}
use Rattle.rl_model.specs.declared.network.SegmentEnd.{SegmentEnd}
use Rattle.rl_drafts.specs.Drafts.{ends_in_box}
use Rattle.rl_ends.specs.SegmentEnds.{KeepsPairs}
use Rattle.rl_ends.proofs.segment_ends.SegmentEnds.add_box.Given as goal

abbrev pub invariant-loop-x : goal.invariant-loop-x
invariant-loop-x l =
    (length l.self.pairs.items ≡ length l.draft.segments)
    × ((ends : List ℕ → List SegmentEnd) → KeepsPairs l.draft.segments l.initial.self.pairs.items ends
    → KeepsPairs l.draft.segments l.self.pairs.items (λ name. ends name ++ ends_in_box l.b 0 (take l.x l.arms) name))
