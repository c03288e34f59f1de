use Rattle.std.proofs.Common.{◌≡◌, ℕ, ◌+◌, List, ◌++◌, take, sym, arith, zero-add, add-one}
use Rattle.rl_drafts.specs.Drafts.{ends_from, ends_in_box}
use Rattle.rl_ends.proofs.SegmentEnds.{ends_from_more, keeps_same}
use Rattle.rl_ends.proofs.segment_ends.SegmentEnds.of.Goals as goal

pub loop-b-preserved : goal.loop-b-preserved
loop-b-preserved c =
    let d = c.args.draft.now in
    let b = c.loop-b.b in
    let x = c.at.result.now in
    let here = sym (c.at.ensures.value x) in
    let more : (name : List ℕ) → (ends_from 0 (take b d.boxes) name ++ ends_in_box b 0 x.arms name) ≡ ends_from 0 (take (b + 1) d.boxes) name =
    λ name. rw add-one (sym (rw zero-add at (ends_from_more 0 d.boxes name b x (omega arith) here))) in (
      c.add_box.ensures.size,
      keeps_same d.segments c.add_box.new.self.pairs.items _ _ more (c.add_box.ensures.ends (ends_from 0 (take b d.boxes)) c.loop-b.invariant.1),
    )
