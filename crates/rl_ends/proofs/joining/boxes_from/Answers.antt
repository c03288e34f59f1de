use Rattle.std.proofs.Common.{◌≡◌, ℕ, ◌++◌, drop, sym, subst, arith, add-one}
use Rattle.rl_drafts.proofs.Lookups.{item_within}
use Rattle.rl_ends.specs.EndsDrafts.{joined_boxes}
use Rattle.rl_ends.proofs.JoinedLists.{boxes_more}
use Rattle.rl_ends.proofs.joining.boxes_from.Goals as goal

pub loop-b-preserved : goal.loop-b-preserved
loop-b-preserved c =
    let d = c.args.draft.now in
    let b = c.loop-b.b in
    let x = item_within d.boxes b (omega arith) in
    let all = joined_boxes d 0 d.boxes in
    subst (λ (k : ℕ). c.push.new.self ++ joined_boxes d k (drop k d.boxes) ≡ all) (sym (add-one b))
    (boxes_more d b x.0 c.in_ok-box_from.field-0 c.loop-b.boxes c.push.new.self all x.1 c.loop-b.invariant (c.in_ok-box_from.ensures x.0 x.1) c.in_ok-push.ensures.ok)
