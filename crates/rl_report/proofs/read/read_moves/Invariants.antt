use Rattle.std.proofs.Common.{ℕ, ◌≤◌, List, [], length}
use Rattle.rl_report.specs.Grammar.{most_moves}
use Rattle.rl_report.specs.Reading.{HasMoves}
use Rattle.rl_report.proofs.read.read_moves.Given as goal

-- the moves so far are those of the lines so far
abbrev pub invariant-loop-m : goal.invariant-loop-m
invariant-loop-m l =
    record {
      read : (text : List ℕ) → HasMoves l.net text [] l.initial.lines → HasMoves l.net text l.moves l.lines;
      few : length l.moves ≤ most_moves;
    }

abbrev pub decreases-loop-m : goal.decreases-loop-m
decreases-loop-m l = length l.lines.left
