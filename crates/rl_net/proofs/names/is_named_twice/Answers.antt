use Rattle.std.proofs.Common.{arith}
use Rattle.std.proofs.lemmas.Grind.{common_steps}
use Rattle.rl_net.proofs.Numbers.{is_twice_at}
use Rattle.rl_net.proofs.names.is_named_twice.Goals as goal

pub returns : goal.returns
returns g c =
    let at = is_twice_at g.T.Named.name_of c.args.items.now c.args.i c.index-items-i.result c.requires c.index-items-i.is in
    grind (arith, common_steps, at)
