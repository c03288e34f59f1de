use Rattle.std.proofs.Common.{length, arith, sym}
use Rattle.rl_base.specs.declared.place.Place.TheVariants.{BoxSide}
use Rattle.rl_drafts.specs.Refusals.{breaks}
use Rattle.rl_net.proofs.Search.{tried_found}
use Rattle.rl_net.proofs.rule_11_sides.first_at.Goals as goal

pub returns-then-has_wrong_side : goal.returns-then-has_wrong_side
returns-then-has_wrong_side c =
    let d = c.args.draft.now in
    sym (tried_found (λ i. breaks d 11 (BoxSide i)) (λ i. BoxSide i) c.loop-i.i (length d.boxes) c.loop-i.invariant (cc) (omega arith))
