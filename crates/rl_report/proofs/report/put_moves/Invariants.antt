use Rattle.std.proofs.Common.{◌≡◌, ◌++◌, take, flat_map}
use Rattle.rl_model.specs.ReportText.{move_line}
use Rattle.rl_report.proofs.report.put_moves.Given as goal

abbrev pub invariant-loop-m : goal.invariant-loop-m
invariant-loop-m l = l.out ≡ l.initial.out ++ flat_map (move_line l.net) (take l.m-index l.moves)
