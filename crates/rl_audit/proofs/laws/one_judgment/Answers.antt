use Rattle.rl_audit.proofs.OneJudgment.{few_moves, same_refusal, same_verdict}
use Rattle.rl_audit.proofs.laws.one_judgment.Goals as goal

pub returns : goal.returns
returns c = record { few = few_moves; verdicts = same_verdict; refusals = same_refusal }
