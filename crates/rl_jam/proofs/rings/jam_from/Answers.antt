use Rattle.std.proofs.Common.{List, sym, ◌∙◌, subst, arith}
use Rattle.std.proofs.lemmas.Bool.{eqb-true, eqb-false}
use Rattle.rl_jam.specs.declared.waits.WaitRow.{WaitRow}
use Rattle.rl_jam.specs.Finding.{GoesOn}
use Rattle.rl_jam.proofs.Lists.{one_longer}
use Rattle.rl_jam.proofs.Around.{begun_more, closed, ended, too_long}
use Rattle.rl_jam.proofs.rings.jam_from.Goals as goal

pub returns-in_default : goal.returns-in_default
returns-in_default c =
    let report = c.args.report.now in
    let first = c.args.first.0 in
    ended report first c.loop.rows c.loop.t.0 c.loop.invariant.begun
    (subst (λ (rs : List WaitRow). (row : WaitRow) → GoesOn report first rs c.loop.t.0 row → ⊥) c.as_slice.ensures c.in_default.ensures)

pub returns-then-eq : goal.returns-then-eq
returns-then-eq c =
    let report = c.args.report.now in
    let first = c.args.first.0 in
    let row = c.in-Some.row in
    let goes = subst (λ (rs : List WaitRow). GoesOn report first rs c.loop.t.0 row) c.as_slice.ensures c.in-Some.ensures in
    rw c.in_ok-push.ensures.ok
    (closed report first c.loop.rows c.loop.t.0 row c.loop.invariant.begun goes (eqb-true row.u.0 first (sym c.eq.ensures ∙ c.if-eq.true)))

pub loop-preserved : goal.loop-preserved
loop-preserved c =
    let report = c.args.report.now in
    let first = c.args.first.0 in
    let row = c.in-Some.row in
    let goes = subst (λ (rs : List WaitRow). GoesOn report first rs c.loop.t.0 row) c.as_slice.ensures c.in-Some.ensures in
    let longer = one_longer c.loop.rows row in
    let count = c.loop.invariant.count in
    record {
      begun = rw c.in_ok-push.ensures.ok
          (begun_more report first c.loop.rows c.loop.t.0 row c.loop.invariant.begun goes (eqb-false row.u.0 first (sym c.eq.ensures ∙ c.if-eq.false)));
      count = rw c.in_ok-push.ensures.ok (omega arith);
    }

pub returns : goal.returns
returns c =
    let count = c.loop.invariant.count in
    let each = c.requires.each in
    too_long c.args.report.now c.args.first.0 c.loop.rows c.loop.t.0 c.loop.invariant.begun (omega arith)
