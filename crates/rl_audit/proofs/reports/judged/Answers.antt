use Rattle.rl_audit.proofs.Judging.{verdict_from}
use Rattle.rl_audit.proofs.reports.judged.Goals as goal

pub returns : goal.returns
returns c = verdict_from c.args.net.now c.args.report.now c.judge_outcomes.new.judge c.verdict.result
    (c.safe_runs.ensures.runs c.args.net.now c.args.report.now.moves c.accepted.ensures) c.requires.of.trains c.judge_outcomes.ensures c.verdict.ensures
