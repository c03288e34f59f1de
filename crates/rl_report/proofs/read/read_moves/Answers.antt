use Rattle.std.proofs.Common.{◌≡◌, ◌+◌, List, [], ◌∷◌, ◌++◌, length, length-append, arith}
use Rattle.rl_model.specs.declared.moves.Move.{Move}
use Rattle.rl_report.proofs.Steps.{long_from_moves}
use Rattle.rl_report.proofs.read.read_moves.Goals as goal

one_longer : (moves : List Move) (m : Move) → length (moves ++ m ∷ []) ≡ length moves + 1
one_longer moves m = length-append moves (m ∷ [])

pub returns-then-len-eq-MAX_MOVES-clause-err : goal.returns-then-len-eq-MAX_MOVES-clause-err
returns-then-len-eq-MAX_MOVES-clause-err c = λ text h.
    let count = one_longer c.loop-m.moves c.in-Some.m in
    let length_is = c.len.ensures in
    let full = c.if-len-eq-MAX_MOVES.true in
    long_from_moves c.args.net.now text (c.loop-m.moves ++ c.in-Some.m ∷ []) c.next_move.new.self
    (c.in-Some.ensures.some text c.loop-m.moves (c.loop-m.invariant.read text h))
    (omega (arith, count, length_is, full))

pub loop-m-preserved : goal.loop-m-preserved
loop-m-preserved c =
    let count = one_longer c.loop-m.moves c.in-Some.m in
    let length_is = c.len.ensures in
    let few = c.loop-m.invariant.few in
    let not_full = c.if-len-eq-MAX_MOVES.false in
    record {
      read = λ text h. rw c.in_ok-push.ensures.ok (c.in-Some.ensures.some text c.loop-m.moves (c.loop-m.invariant.read text h));
      few = rw c.in_ok-push.ensures.ok (omega (arith, count, length_is, few, not_full));
    }
