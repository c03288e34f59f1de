use Rattle.relis.proofs.audit.audit_on.Goals as goal

pub returns-in-Err : goal.returns-in-Err
returns-in-Err c = c.refusal_of.ensures c.args.net.now c.args.report.now c.in-Err.ensures.audits
