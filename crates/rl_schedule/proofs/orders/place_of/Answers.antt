use Rattle.std.proofs.Common.{length, arith}
use Rattle.rl_schedule.proofs.WordsOf.{first_byte}
use Rattle.rl_schedule.proofs.orders.place_of.Goals as goal

pub returns-then-b-byte : goal.returns-then-b-byte
returns-then-b-byte c = first_byte c.args.byte c.args.text.now c.loop-i.i (omega arith) c.loop-i.invariant (λ l. c.if-b-byte.true)

pub returns : goal.returns
returns c = first_byte c.args.byte c.args.text.now (length c.args.text.now) (omega arith) (λ k l. c.loop-i.invariant k (omega arith))
    (λ l. absurd (omega arith))
