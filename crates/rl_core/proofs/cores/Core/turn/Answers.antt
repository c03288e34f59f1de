use Rattle.rl_core.proofs.Turned.{passed_by}
use Rattle.rl_core.specs.Turns.{IsTurn}
use Rattle.rl_core.proofs.cores.Core.turn.Goals as goal

pub returns-in-Some : goal.returns-in-Some
returns-in-Some c =
    let turn : IsTurn c.args.self.now c.pass.new.self c.args.node.0 c.pass.result =
    passed_by c.args.self.now c.pass.new.self c.args.node.0 c.in-Some.glance c.pass.result c.reached.ensures.sizes c.requires.there c.in-Some.ensures
    c.pass.ensures.core c.pass.ensures.answer in
    record {
      turn = turn;
      promised = c.turns_keep_promises.ensures.turn c.args.self.now c.pass.new.self c.args.node.0 c.pass.result c.reached.ensures c.requires.there turn;
    }
