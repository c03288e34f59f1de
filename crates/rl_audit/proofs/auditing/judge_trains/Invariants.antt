use Rattle.std.proofs.Common.{◌≡◌, ◌≤◌, length}
use Rattle.rl_domain.specs.Rows.{Fits}
use Rattle.rl_report.specs.Grammar.{most_moves}
use Rattle.rl_audit.specs.Judging.{JudgedTrains}
use Rattle.rl_audit.proofs.auditing.judge_trains.Given as goal

abbrev pub invariant-loop-k : goal.invariant-loop-k
invariant-loop-k l =
    record {
      judged : JudgedTrains l.net l.tries l.k l.initial.lines l.lines l.initial.judge l.judge;
      fits : Fits l.net l.judge.world;
      trains : length l.judge.counts.items ≡ length l.net.trains;
      few : l.judge.moves ≤ most_moves;
    }
