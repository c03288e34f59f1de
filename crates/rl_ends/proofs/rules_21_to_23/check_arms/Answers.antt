use Rattle.std.proofs.Common.{refl, sym, ◌∙◌, subst, arith, below_more}
use Rattle.rl_ends.specs.EndRefusals.{IsFirstBreak}
use Rattle.rl_ends.proofs.EndLists.{length-found}
use Rattle.rl_ends.proofs.Rules.{first_end, kept_ends}
use Rattle.rl_ends.proofs.rules_21_to_23.check_arms.Goals as goal

pub place_of_end-requires : goal.place_of_end-requires
place_of_end-requires c =
    let count = length-found c.args.draft.now c.args.arms.now c.requires.arms in
    omega arith

pub returns-then-lacks_arm-clause-refused : goal.returns-then-lacks_arm-clause-refused
returns-then-lacks_arm-clause-refused c =
    let d = c.args.draft.now in (
      refl,
      subst (IsFirstBreak d 23) (sym c.place_of_end.ensures)
          (first_end d 23 c.loop-k.k (omega arith) (sym c.lacks_arm.ensures ∙ c.if-lacks_arm.true) c.loop-k.invariant),
    )

pub loop-k-preserved : goal.loop-k-preserved
loop-k-preserved c = below_more _ _ c.loop-k.invariant (sym c.lacks_arm.ensures ∙ c.if-lacks_arm.false)

pub returns-clause-kept : goal.returns-clause-kept
returns-clause-kept c =
    let count = length-found c.args.draft.now c.args.arms.now c.requires.arms in
    kept_ends c.args.draft.now 23 c.loop-k.k (omega arith) (omega arith) c.loop-k.invariant
