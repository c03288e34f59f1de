use Rattle.std.proofs.Common.{◌∙◌, ap, sym}
use Rattle.rl_steps.specs.Step.{is_ready}
use Rattle.rl_core.proofs.Turned.{turned_by}
use Rattle.rl_core.specs.Turns.{IsTurn}
use Rattle.rl_core.proofs.cores.Core.turn_closely.Goals as goal

pub returns : goal.returns
returns c =
    let kept = c.keep_look.ensures in
    let turn : IsTurn c.args.self.now c.go_on.new.self c.args.node.0 c.make-answer.result =
    turned_by c.args.self.now c.make-answer.new.self c.go_on.new.self c.args.node.0 c.look-look.result c.is_ready-ready.result c.make-answer.result
    c.reached.ensures.sizes c.requires.there c.look-look.ensures.look (rw kept at c.make-answer.ensures.core)
    (c.is_ready-ready.ensures ∙ sym (ap is_ready c.mind.ensures.mind)) c.go_on.ensures (rw kept at c.make-answer.ensures.answer) in
    record {
      turn = turn;
      promised = c.turns_keep_promises.ensures.turn c.args.self.now c.go_on.new.self c.args.node.0 c.make-answer.result c.reached.ensures
          c.requires.there turn;
    }
