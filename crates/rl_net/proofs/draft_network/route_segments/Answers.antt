use Rattle.std.proofs.Common.{map, arith, sym, ap, ◌∙◌}
use Rattle.rl_drafts.specs.Drafts.{segment_number, every_other}
use Rattle.rl_net.proofs.Growth.{every_other_step}
use Rattle.rl_net.proofs.draft_network.route_segments.Goals as goal

pub loop-k-preserved : goal.loop-k-preserved
loop-k-preserved c =
    let d = c.args.index.now in
    let route = c.args.route.now in
    let number = c.segment_id.ensures ∙ ap (segment_number d) c.bytes.ensures in
    every_other_step (segment_number d) route c.loop-k.ids c.push.new.self
    (map (segment_number d) (every_other route)) c.loop-k.k c.at.result.now c.segment_id.result (omega arith)
    (sym (c.at.ensures.value _)) c.loop-k.invariant number c.in_ok-push.ensures.ok
