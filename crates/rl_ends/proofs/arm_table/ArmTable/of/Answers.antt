use Rattle.std.proofs.Common.{ℕ, ◌+◌, ◌*◌, length, take, refl, sym, subst, arith, add-one, below_more}
use Rattle.std.proofs.lemmas.Bool.{MatchBool-at_true, MatchBool-at_false}
use Rattle.std.proofs.lemmas.Option.{slice_get_within}
use Rattle.rl_ends.specs.EndsDrafts.{named_arms}
use Rattle.rl_ends.specs.EndRefusals.{IsFirstBreak}
use Rattle.rl_ends.specs.Tables.{Keeps}
use Rattle.rl_ends.proofs.ArmNumbers.{Keeps-put, arm_free, arm_twice}
use Rattle.rl_ends.proofs.EndLists.{is_named, length-found}
use Rattle.rl_ends.proofs.Rules.{first_end, kept_ends}
use Rattle.rl_ends.proofs.arm_table.ArmTable.of.Goals as goal

pub put-requires : goal.put-requires
put-requires c =
    let e = c.at.result.now in
    let own = is_named c.args.draft.now c.args.arms.now c.loop-k.k e c.requires.arms c.at.ensures.there in
    slice_get_within c.loop-k.table.ends.items (4 * e.at.0 + e.arm.0) _ (c.loop-k.invariant.0 e.at.0 e.arm.0 own.of_box.box own.of_box.arm)

pub place_of_end-requires : goal.place_of_end-requires
place_of_end-requires c =
    let count = length-found c.args.draft.now c.args.arms.now c.requires.arms in
    let few = c.requires.countable.segments in
    omega arith

pub returns-then-not-put-clause-refused : goal.returns-then-not-put-clause-refused
returns-then-not-put-clause-refused c =
    let d = c.args.draft.now in
    let e = c.at.result.now in
    let k = c.loop-k.k in
    let own = is_named d c.args.arms.now k e c.requires.arms c.at.ensures.there in
    let taken = MatchBool-at_false _ _ c.if-not-put.true c.put.ensures in (
      refl,
      subst (IsFirstBreak d 24) (sym c.place_of_end.ensures)
          (first_end d 24 k (omega arith) (arm_twice d k e taken.0 c.loop-k.table.ends.items own c.loop-k.invariant.0 taken.1) c.loop-k.invariant.1),
    )

pub loop-k-preserved : goal.loop-k-preserved
loop-k-preserved c =
    let d = c.args.draft.now in
    let e = c.at.result.now in
    let k = c.loop-k.k in
    let own = is_named d c.args.arms.now k e c.requires.arms c.at.ensures.there in
    let free = MatchBool-at_true _ _ c.if-not-put.false c.put.ensures in
    let put = Keeps-put (length d.boxes) k (named_arms d) e c.loop-k.table.ends.items c.put.new.self.ends.items own.named own.of_box c.loop-k.invariant.0
    free.0 free.1 in (
      subst (λ (n : ℕ). Keeps (length d.boxes) (take n (named_arms d)) c.put.new.self.ends.items) (sym (add-one k)) put,
      below_more _ _ c.loop-k.invariant.1 (arm_free d k e c.loop-k.table.ends.items own c.loop-k.invariant.0 free.0),
    )

pub returns-clause-kept : goal.returns-clause-kept
returns-clause-kept c =
    let count = length-found c.args.draft.now c.args.arms.now c.requires.arms in
    kept_ends c.args.draft.now 24 c.loop-k.k (omega arith) (omega arith) c.loop-k.invariant.1
