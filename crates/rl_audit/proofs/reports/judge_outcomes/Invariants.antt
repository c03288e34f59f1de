use Rattle.std.proofs.Common.{take}
use Rattle.rl_audit.specs.Judging.{HasJudgedTrains}
use Rattle.rl_audit.proofs.reports.judge_outcomes.Given as goal

-- the outcomes before were judged
abbrev pub invariant-loop-k : goal.invariant-loop-k
invariant-loop-k l = HasJudgedTrains l.net (record l.report { outcomes = take l.k l.report.outcomes }) l.judge
