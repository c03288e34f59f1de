use Rattle.std.proofs.Common.{length}
use Rattle.rl_audit.specs.Judging.{JudgedMoves}
use Rattle.rl_audit.proofs.auditing.judge_moves.Given as goal

abbrev pub invariant-loop-m : goal.invariant-loop-m
invariant-loop-m l = JudgedMoves l.net l.initial.lines l.lines l.judge

abbrev pub decreases-loop-m : goal.decreases-loop-m
decreases-loop-m l = length l.lines.left
