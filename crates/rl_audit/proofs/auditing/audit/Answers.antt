use Rattle.rl_audit.proofs.OneJudgment.{answers}
use Rattle.rl_audit.proofs.auditing.audit.Goals as goal

pub returns-clause-complete : goal.returns-clause-complete
returns-clause-complete c = λ report verdict spelled few is.
    let laws = c.one_reading.ensures in
    let net = c.args.net.now in
    let text = c.args.text.now in
    let network = c.accepted.ensures in
    answers net text report verdict c.audit_text.result (λ other of. laws.reports net text other report network of spelled)
    (λ n fault. laws.no_fault net text report n spelled fault)
    (laws.not_long net text report network spelled few) c.audit_text.ensures is
