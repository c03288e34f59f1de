use Rattle.std.proofs.Common.{arith, sym, ap, length}
use Rattle.rl_base.specs.declared.draft.Draft.{Draft}
use Rattle.rl_drafts.specs.Drafts.{train_of}
use Rattle.rl_net.proofs.Growth.{map_step}
use Rattle.rl_net.proofs.draft_network.trains_from.Goals as goal

pub loop-i-preserved : goal.loop-i-preserved
loop-i-preserved c =
    let d = c.args.index.now in
    let here = rw c.draft-draft.ensures at (sym (c.at.ensures.value c.at.result.now)) in
    map_step (train_of d) d.trains c.loop-i.trains c.push.new.self c.loop-i.i c.at.result.now c.in_ok-train_from.field-0
    (omega (arith, ap (λ (x : Draft). length x.trains) c.draft-draft.ensures)) here c.loop-i.invariant c.in_ok-train_from.ensures c.in_ok-push.ensures.ok
