use Rattle.std.proofs.Common.{◌-◌, All}
use Rattle.rl_runner.specs.Turns.{EachTurned}
use Rattle.rl_runner.proofs.work.work.Given as goal

abbrev pub invariant-loop-pass : goal.invariant-loop-pass
invariant-loop-pass g l =
    EachTurned g.T.Turner.number g.T.Turner.turns g.T.Turner.home l.pass l.initial.group l.group
    × All (g.T.Turner.ready (l.round - l.pass)) l.group
