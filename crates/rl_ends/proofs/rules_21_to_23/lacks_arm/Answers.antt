use Rattle.std.proofs.Common.{not, ltb, ℕ, ap, sym, ◌∙◌}
use Rattle.rl_ends.proofs.EndLists.{is_named}
use Rattle.rl_ends.proofs.Found.{lacks}
use Rattle.rl_ends.proofs.rules_21_to_23.lacks_arm.Goals as goal

pub at-requires : goal.at-requires
at-requires c = (is_named c.args.draft.now c.args.arms.now c.args.k c.at-end.result.now c.requires.arms c.at-end.ensures.there).of_box.box

pub returns : goal.returns
returns c =
    let d = c.args.draft.now in
    let e = c.at-end.result.now in
    let own = is_named d c.args.arms.now c.args.k e c.requires.arms c.at-end.ensures.there in
    ap (λ (n : ℕ). not (ltb e.arm.0 n)) c.arm_count.ensures ∙ sym (lacks d c.args.k e c.at.result.now own c.at.ensures.there)
