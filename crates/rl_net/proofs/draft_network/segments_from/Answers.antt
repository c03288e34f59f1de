use Rattle.std.proofs.Common.{sym, ◌∙◌, arith}
use Rattle.std.proofs.lemmas.Option.{same_Some}
use Rattle.rl_drafts.specs.Drafts.{segment_of}
use Rattle.rl_net.proofs.Growth.{map_step}
use Rattle.rl_net.proofs.draft_network.segments_from.Goals as goal

pub loop-i-preserved : goal.loop-i-preserved
loop-i-preserved c =
    let d = c.args.draft.now in
    let name = c.at.result.now in
    let kept = same_Some _ _ (sym c.at-in-loop-i.ensures ∙ c.requires.ends c.loop-i.i name c.at.ensures.there) in
    map_step (segment_of d) d.segments c.loop-i.segments c.push.new.self c.loop-i.i name c.in_ok-segment_from.field-0 (omega arith)
    (sym (c.at.ensures.value name)) c.loop-i.invariant (c.in_ok-segment_from.ensures d kept) c.in_ok-push.ensures.ok
