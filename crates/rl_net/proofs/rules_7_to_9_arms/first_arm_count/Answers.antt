use Rattle.std.proofs.Common.{◌≡◌, ℕ, None, length, arith, sym, subst}
use Rattle.rl_base.specs.declared.place.Place.TheVariants.{BoxArms}
use Rattle.rl_drafts.specs.Refusals.{breaks}
use Rattle.rl_drafts.specs.Search.{broken_at, first_below}
use Rattle.rl_net.proofs.Few.{arms_few}
use Rattle.rl_net.proofs.Search.{tried_found}
use Rattle.rl_net.proofs.rules_7_to_9_arms.first_arm_count.Goals as goal

pub returns-then-has_wrong_arm_count-clause-place : goal.returns-then-has_wrong_arm_count-clause-place
returns-then-has_wrong_arm_count-clause-place c =
    let d = c.args.draft.now in
    sym (tried_found (λ i. breaks d 7 (BoxArms i)) (λ i. BoxArms i) c.loop-i.i (length d.boxes) c.loop-i.invariant (cc) (omega arith))

pub returns-clause-few : goal.returns-clause-few
returns-clause-few c =
    let d = c.args.draft.now in
    let all : c.loop-i.i ≡ length d.boxes = omega arith in
    λ none. record { boxes = arms_few d (subst (λ (m : ℕ). first_below (λ i. broken_at d 7 (BoxArms i)) m ≡ None) all c.loop-i.invariant) }
