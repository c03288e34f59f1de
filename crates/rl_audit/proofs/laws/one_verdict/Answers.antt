use Rattle.rl_audit.proofs.OneVerdict.{only_verdict}
use Rattle.rl_audit.proofs.laws.one_verdict.Goals as goal

pub returns : goal.returns
returns c = only_verdict
