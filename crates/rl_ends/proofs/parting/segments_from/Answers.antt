use Rattle.std.proofs.Common.{◌++◌, take, map, sym, ap, ◌∙◌, arith, ◌∷◌, []}
use Rattle.std.proofs.lemmas.List.{map_more}
use Rattle.std.proofs.lemmas.Option.{get_or_from_slice_get}
use Rattle.rl_drafts.proofs.Lookups.{item_within}
use Rattle.rl_ends.specs.Parted.{parted_segment}
use Rattle.rl_ends.specs.declared.ends_draft.EndsSegment.{EndsSegment}
use Rattle.rl_ends.proofs.parting.segments_from.Goals as goal

pub loop-s-preserved : goal.loop-s-preserved
loop-s-preserved c =
    let d = c.args.draft.now in
    let s = c.loop-s.s in
    let name = item_within d.segments s (omega arith) in
    let made = c.in_ok-segment_from.ensures name.0 name.1 in
    let more = map_more (parted_segment d) d.segments s name.0 (omega arith) in
    let own = get_or_from_slice_get d.segments s name.0 name.0 name.1 in
    c.in_ok-push.ensures.ok
    ∙ (ap (λ xs. xs ++ c.in_ok-segment_from.field-0 ∷ []) c.loop-s.invariant
    ∙ (ap (λ (x : EndsSegment). map (parted_segment d) (take s d.segments) ++ x ∷ []) (made ∙ ap (parted_segment d) (sym own)) ∙ sym more))
