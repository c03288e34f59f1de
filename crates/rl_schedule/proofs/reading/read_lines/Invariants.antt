use Rattle.std.proofs.Common.{◌≡◌, [], ◌≤◌, length, All}
use Rattle.rl_base.specs.declared.limits.TheConstants.{MAX_TURNS}
use Rattle.rl_text.specs.Lines.{lines_of}
use Rattle.rl_schedule.specs.Readings.{items_after, nodes_of}
use Rattle.rl_schedule.specs.Turns.{HasNode, turns_together}
use Rattle.rl_schedule.proofs.reading.read_lines.Given as goal

abbrev pub invariant-loop-line : goal.invariant-loop-line
invariant-loop-line l =
    record {
      answer : items_after l.net [] (lines_of l.text) ≡ items_after l.net l.items l.lines.left;
      turns : l.turns ≡ turns_together (nodes_of l.net) l.items;
      few : l.turns ≤ MAX_TURNS;
      given : l.lines.given ≡ length l.items;
      there : All (HasNode (nodes_of l.net)) l.items;
    }

abbrev pub decreases-loop-line : goal.decreases-loop-line
decreases-loop-line l = length l.lines.left
