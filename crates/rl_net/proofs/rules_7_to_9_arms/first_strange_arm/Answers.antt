use Rattle.std.proofs.Common.{arith, sym}
use Rattle.rl_base.specs.declared.place.Place.TheVariants.{BoxArm}
use Rattle.rl_drafts.specs.Refusals.{breaks}
use Rattle.rl_drafts.specs.Search.{arms_at}
use Rattle.rl_net.proofs.Few.{arms_at_box}
use Rattle.rl_net.proofs.Search.{tried_found}
use Rattle.rl_net.proofs.rules_7_to_9_arms.first_strange_arm.Goals as goal

pub returns-then-is_no_segment : goal.returns-then-is_no_segment
returns-then-is_no_segment c =
    let d = c.args.index.now in
    sym (tried_found (λ j. breaks d 8 (BoxArm c.args.i j)) (λ j. BoxArm c.args.i j) c.loop-j.j (arms_at d c.args.i) c.loop-j.invariant (cc)
    (omega (arith, arms_at_box d c.args.i _ (rw c.draft.ensures at c.at.ensures.there))))
