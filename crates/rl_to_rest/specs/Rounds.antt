-- A round of turns: for how many of them room is granted, and what the nodes are after it.
use Rattle.std.specs.Prelude.{◌≡◌, ℕ, zero, suc, ◌*◌, ◌/◌, ◌≤◌, List}
use Rattle.rl_base.specs.declared.limits.TheConstants.{MAX_ATTEMPT_NODE_EVENTS}
use Rattle.rl_rule.specs.declared.rails.Rails.{Rails}
use Rattle.rl_runner.specs.Turns.{EachTurned}
use Rattle.rl_nodes.specs.Finished.{most_attempts}
use Rattle.rl_nodes.specs.Nodes.{Node, number, turns_of, IsHome, AreNodesOf}

-- they are all nodes of some rails, and each has a record for the most events that it may make: so many for each attempt
-- that the trains may make
pub record HaveRecords (nodes : List Node) : Type 0 where
  pub rails : Rails
  pub limit : ℕ
  pub are : AreNodesOf rails limit nodes
  pub room : MAX_ATTEMPT_NODE_EVENTS * most_attempts rails ≤ limit

-- the number, halved so many times and rounded down each time
abbrev pub halved : ℕ → ℕ → ℕ
halved zero n = n
halved (suc times) n = halved times n / 2

-- what may be granted where so many turns are asked for: as many, or half of them, or half of that and so on, down to one
pub record IsGranted (asked n : ℕ) : Type 0 where
  pub some : 1 ≤ n
  pub few : n ≤ asked
  pub times : ℕ
  pub half : n ≡ halved times asked

-- each node, in its place, has had the turns that were granted
pub record HaveGoneRound (asked : ℕ) (old new : List Node) : Type 0 where
  pub turns : ℕ
  pub granted : IsGranted asked turns
  pub turned : EachTurned number turns_of IsHome turns old new
