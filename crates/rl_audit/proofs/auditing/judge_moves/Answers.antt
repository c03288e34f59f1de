use Rattle.std.proofs.Common.{◌≡◌, ◌+◌, List, [], ◌∷◌, ◌++◌, length, length-append, arith}
use Rattle.rl_model.specs.declared.moves.Move.{Move}
use Rattle.rl_audit.proofs.auditing.judge_moves.Goals as goal

one_longer : (moves : List Move) (m : Move) → length (moves ++ m ∷ []) ≡ length moves + 1
one_longer moves m = length-append moves (m ∷ [])

pub returns-then-judge-clause-err : goal.returns-then-judge-clause-err
returns-then-judge-clause-err c = λ text h.
    let run = c.loop-m.invariant in
    let count = run.judged.count in
    let full = c.if-judge.true in
    let longer = one_longer run.moves c.in-Some.m in
    c.reading_laws.ensures.long c.args.net.now text (run.moves ++ c.in-Some.m ∷ []) c.next_move.new.self
    (c.in-Some.ensures.some text run.moves (run.read text h))
    (omega (arith, count, full, longer))

pub loop-m-preserved : goal.loop-m-preserved
loop-m-preserved c =
    let run = c.loop-m.invariant in
    let few = run.few in
    let count = run.judged.count in
    let not_full = c.if-judge.false in
    let longer = one_longer run.moves c.in-Some.m in
    record {
      moves = run.moves ++ c.in-Some.m ∷ [];
      few = omega (arith, few, count, not_full, longer);
      read = λ text h. c.in-Some.ensures.some text run.moves (run.read text h);
      judged = c.take_move.ensures run.moves run.few run.judged;
    }
