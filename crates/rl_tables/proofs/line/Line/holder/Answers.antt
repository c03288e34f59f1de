use Rattle.std.proofs.Common.{◌≡◌, rules}
use Rattle.rl_tables.specs.Starts.{starter_of}
use Rattle.rl_tables.proofs.Holders.{holder_there, holder_fits}
use Rattle.rl_tables.proofs.line.Line.holder.Goals as goal

pub returns-clause-there : goal.returns-clause-there
returns-clause-there c =
    let is : c.map.result ≡ starter_of c.args.self.now c.args.s.0 = search rules in
    rw is (holder_there c.args.self.now c.args.s.0 c.train_tables.ensures.line)

pub returns-clause-few : goal.returns-clause-few
returns-clause-few c =
    let is : c.map.result ≡ starter_of c.args.self.now c.args.s.0 = search rules in
    rw is (holder_fits c.args.self.now c.args.s.0 c.train_tables.ensures.line)
