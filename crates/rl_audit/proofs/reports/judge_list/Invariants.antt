use Rattle.std.proofs.Common.{take}
use Rattle.rl_audit.specs.Judging.{HasJudged}
use Rattle.rl_audit.proofs.reports.judge_list.Given as goal

-- the moves before were judged
abbrev pub invariant-loop-m : goal.invariant-loop-m
invariant-loop-m l = HasJudged l.net (take l.m-index l.moves) l.judge
