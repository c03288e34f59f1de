use Rattle.std.proofs.Common.{length, arith}
use Rattle.rl_report.proofs.WordsOf.{first_space}
use Rattle.rl_report.proofs.words.word_end.Goals as goal

pub returns-then-b-eq32 : goal.returns-then-b-eq32
returns-then-b-eq32 c = first_space c.args.text.now c.loop-i.i (omega arith) c.loop-i.invariant (λ l. c.if-b-eq32.true)

pub returns : goal.returns
returns c = first_space c.args.text.now (length c.args.text.now) (omega arith) (λ k l. c.loop-i.invariant k (omega arith)) (λ l. absurd (omega arith))
