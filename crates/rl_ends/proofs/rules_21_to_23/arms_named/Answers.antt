use Rattle.std.proofs.Common.{refl, sym, ◌∙◌, subst, arith, below_more}
use Rattle.std.proofs.lemmas.List.{take_all}
use Rattle.rl_ends.specs.EndsDrafts.{named_arms}
use Rattle.rl_ends.specs.EndRefusals.{IsFirstBreak}
use Rattle.rl_ends.proofs.EndLists.{length-named_arms}
use Rattle.rl_ends.proofs.Found.{no_box, has_box, arms_more}
use Rattle.rl_ends.proofs.Rules.{first_end, kept_ends}
use Rattle.rl_ends.proofs.rules_21_to_23.arms_named.Goals as goal

pub returns-in-None-clause-refused : goal.returns-in-None-clause-refused
returns-in-None-clause-refused c =
    let d = c.args.draft.now in
    let k = c.loop-k.k in (
      refl,
      subst (IsFirstBreak d 22) (sym c.place_of_end.ensures)
          (first_end d 22 k (omega arith) (no_box d k c.in-None.ensures c.requires.texts) c.loop-k.invariant.1),
    )

pub loop-k-preserved : goal.loop-k-preserved
loop-k-preserved c =
    let d = c.args.draft.now in
    let k = c.loop-k.k in (
      arms_more (named_arms d) c.loop-k.arms c.push.new.self c.in-Some.arm k c.in-Some.ensures c.loop-k.invariant.0 c.in_ok-push-in-Some.ensures.ok,
      below_more _ _ c.loop-k.invariant.1 (has_box d k c.in-Some.arm c.in-Some.ensures),
    )

pub returns-clause-arms : goal.returns-clause-arms
returns-clause-arms c =
    let count = length-named_arms c.args.draft.now in
    c.loop-k.invariant.0 ∙ take_all c.loop-k.k (named_arms c.args.draft.now) (omega arith)

pub returns-clause-kept : goal.returns-clause-kept
returns-clause-kept c = kept_ends c.args.draft.now 22 c.loop-k.k (omega arith) (omega arith) c.loop-k.invariant.1
