use Rattle.std.proofs.Common.{◌≡◌, ℕ, ◌<◌, length, List, slice_get, Some, sym, ap, ◌∙◌, arith}
use Rattle.std.proofs.lemmas.Option.{same_Some, slice_get_within}
use Rattle.rl_base.specs.declared.draft.Draft.{Draft}
use Rattle.rl_model.specs.declared.network.SegmentEnd.{SegmentEnd}
use Rattle.rl_drafts.specs.Drafts.{ends_of}
use Rattle.rl_ends.specs.Parted.{IsWhole}
use Rattle.rl_ends.specs.SegmentEnds.{numbers_of, pair_of, KeepsPairs}
use Rattle.rl_ends.specs.declared.segment_ends.Pair.{Pair}
use Rattle.rl_ends.proofs.PartedEnds.{IsEndOf, low_end, high_end, low_there, high_there, arm_small}
use Rattle.rl_ends.proofs.parting.segment_from.Goals as goal

-- the pair that is read at a segment
pair_is : (d : Draft) (table : List Pair) (s : ℕ) (name : List ℕ) (pair : Pair) → KeepsPairs d.segments table (ends_of d) → slice_get d.segments s ≡ Some name
    → slice_get table s ≡ Some pair → pair ≡ pair_of (ends_of d name)
pair_is d table s name pair keeps there read = same_Some pair (pair_of (ends_of d name)) (sym read ∙ keeps s name there)

-- an arm that is there has a box, and is one of four
box_there : (d : Draft) (name : List ℕ) (e : SegmentEnd) (p : ℕ × ℕ) → p ≡ numbers_of e → IsEndOf d name e → p.0 < length d.boxes
box_there d name e p is k =
    let within = slice_get_within d.boxes e.at.0 k.item k.box in
    let same : p.0 ≡ e.at.0 = ap (λ (x : ℕ × ℕ). x.0) is in
    omega arith

arm_there : (d : Draft) → IsWhole d → (name : List ℕ) (e : SegmentEnd) (p : ℕ × ℕ) → p ≡ numbers_of e → IsEndOf d name e → p.1 < 4
arm_there d whole name e p is k =
    let small = arm_small d whole name e k in
    let same : p.1 ≡ e.arm.0 = ap (λ (x : ℕ × ℕ). x.1) is in
    omega arith

pub end_text-requires-clause-box_in : goal.end_text-requires-clause-box_in
end_text-requires-clause-box_in c =
    let d = c.args.draft.now in
    let name = c.at.result.now in
    let pair = pair_is d c.args.ends.now.pairs.items c.args.s name c.at-pair.result c.requires.ends c.at.ensures.there c.at-pair.ensures in
    box_there d name (low_end d name) c.low.result (c.low.ensures (ends_of d name) pair)
    (low_there d name (c.requires.whole.ends c.args.s name c.at.ensures.there))

pub end_text-requires-clause-arm_in : goal.end_text-requires-clause-arm_in
end_text-requires-clause-arm_in c =
    let d = c.args.draft.now in
    let name = c.at.result.now in
    let pair = pair_is d c.args.ends.now.pairs.items c.args.s name c.at-pair.result c.requires.ends c.at.ensures.there c.at-pair.ensures in
    arm_there d c.requires.whole name (low_end d name) c.low.result (c.low.ensures (ends_of d name) pair)
    (low_there d name (c.requires.whole.ends c.args.s name c.at.ensures.there))

pub end_text-requires-2-clause-box_in : goal.end_text-requires-2-clause-box_in
end_text-requires-2-clause-box_in c =
    let d = c.args.draft.now in
    let name = c.at.result.now in
    let pair = pair_is d c.args.ends.now.pairs.items c.args.s name c.at-pair.result c.requires.ends c.at.ensures.there c.at-pair.ensures in
    box_there d name (high_end d name) c.high.result (c.high.ensures (ends_of d name) pair)
    (high_there d name (c.requires.whole.ends c.args.s name c.at.ensures.there))

pub end_text-requires-2-clause-arm_in : goal.end_text-requires-2-clause-arm_in
end_text-requires-2-clause-arm_in c =
    let d = c.args.draft.now in
    let name = c.at.result.now in
    let pair = pair_is d c.args.ends.now.pairs.items c.args.s name c.at-pair.result c.requires.ends c.at.ensures.there c.at-pair.ensures in
    arm_there d c.requires.whole name (high_end d name) c.high.result (c.high.ensures (ends_of d name) pair)
    (high_there d name (c.requires.whole.ends c.args.s name c.at.ensures.there))
