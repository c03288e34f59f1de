use Rattle.std.proofs.Common.{arith}
use Rattle.rl_outside.proofs.std_sink.WriterSinkSink.TheImpl.Goals as goal

pub put-tells : goal.put-tells
put-tells g c = record {
  at_least_one = grind arith;
  within = grind arith;
  bytes = grind arith;
  kept = grind arith;
  cause = grind arith;
  later = grind arith;
}
