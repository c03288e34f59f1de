use Rattle.rl_protocol.proofs.Refusals.{refused_is}
use Rattle.rl_protocol.proofs.laws.counted_refusals.Goals as goal

pub returns : goal.returns
returns c = refused_is
