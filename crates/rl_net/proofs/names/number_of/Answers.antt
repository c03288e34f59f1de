use Rattle.std.proofs.Common.{◌≡◌, true, false, bytes_eq, arith, sym, add-one}
use Rattle.rl_net.proofs.Numbers.{number_in_found, number_in_none}
use Rattle.rl_net.proofs.names.number_of.Goals as goal

pub returns-then-eq-clause-number : goal.returns-then-eq-clause-number
returns-then-eq-clause-number g c =
    let is : bytes_eq (g.T.Named.name_of c.index-items-i.result) c.args.name.now ≡ true = cc in
    sym (number_in_found _ _ _ _ _ c.loop-i.invariant (omega arith) c.index-items-i.is is)

pub loop-i-preserved : goal.loop-i-preserved
loop-i-preserved g c =
    let differs : bytes_eq (g.T.Named.name_of c.index-items-i.result) c.args.name.now ≡ false = cc in
    rw add-one (number_in_none g.T.Named.name_of c.args.items.now c.loop-i.i c.index-items-i.result c.args.name.now c.loop-i.invariant
    (omega arith) c.index-items-i.is differs)
