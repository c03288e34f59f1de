use Rattle.std.proofs.Common.{arith}
use Rattle.rl_model.specs.World.{start}
use Rattle.rl_model.proofs.Counts.{made_after}
use Rattle.rl_model.proofs.laws.counted_leaves.Goals as goal

pub returns : goal.returns
returns c = λ net moves t. omega (arith, made_after (start net) moves t)
