use Rattle.std.proofs.Common.{◌≡◌, ℕ, List, [], length}
use Rattle.rl_model.specs.declared.report.Report.{Report}
use Rattle.rl_report.specs.Reading.{HasRead}
use Rattle.rl_report.proofs.read.read_outcomes.Given as goal

-- the outcomes so far are those of the lines so far
abbrev pub invariant-loop-k : goal.invariant-loop-k
invariant-loop-k l =
    record {
      read : (text : List ℕ) (report : Report) → HasRead l.net text report l.initial.lines → report.outcomes ≡ []
          → HasRead l.net text (record report { outcomes = l.outcomes }) l.lines;
      count : length l.outcomes ≡ l.k;
      none : l.outcomes ≡ [] → l.lines ≡ l.initial.lines;
    }
