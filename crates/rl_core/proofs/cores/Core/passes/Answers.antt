use Rattle.rl_core.proofs.Turned.{passed_by, idle_by}
use Rattle.rl_core.proofs.cores.Core.passes.Goals as goal

pub returns-in-Some-clause-passed : goal.returns-in-Some-clause-passed
returns-in-Some-clause-passed c = λ passed.
    idle_by c.args.self.now c.pass-answer.new.self c.args.node.0 c.in-Some.glance c.pass-answer.result c.reached.ensures.sizes c.requires
    c.in-Some.ensures c.pass-answer.ensures.core c.pass-answer.ensures.answer

pub returns-in-Some-clause-promised : goal.returns-in-Some-clause-promised
returns-in-Some-clause-promised c = λ passed.
    c.turns_keep_promises.ensures.idle c.args.self.now c.pass-answer.new.self c.args.node.0 c.pass-answer.result c.reached.ensures c.requires
    (passed_by c.args.self.now c.pass-answer.new.self c.args.node.0 c.in-Some.glance c.pass-answer.result c.reached.ensures.sizes c.requires
    c.in-Some.ensures c.pass-answer.ensures.core c.pass-answer.ensures.answer)
    (idle_by c.args.self.now c.pass-answer.new.self c.args.node.0 c.in-Some.glance c.pass-answer.result c.reached.ensures.sizes c.requires
    c.in-Some.ensures c.pass-answer.ensures.core c.pass-answer.ensures.answer)
