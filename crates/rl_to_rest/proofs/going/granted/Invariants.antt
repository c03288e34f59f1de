use Rattle.std.proofs.Common.{◌≡◌, ℕ, ◌≤◌}
use Rattle.rl_nodes.specs.Nodes.{AreToppedUp}
use Rattle.rl_to_rest.specs.Rounds.{halved}
use Rattle.rl_to_rest.proofs.going.granted.Given as goal

abbrev pub decreases-loop-asked : goal.decreases-loop-asked
decreases-loop-asked l = l.asked

abbrev pub invariant-loop-asked : goal.invariant-loop-asked
invariant-loop-asked l =
    record {
      few : l.asked ≤ l.turns;
      half : (times : ℕ) × (l.asked ≡ halved times l.turns);
      kept : AreToppedUp l.initial.nodes l.nodes;
    }
