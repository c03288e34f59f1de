-- What parting makes of nodes: the part of each, in order.
use Rattle.std.specs.Prelude.{◌≡◌, ℕ, List, length, slice_get, Some}
use Rattle.rl_rule.specs.Seats.{seat_id, seat_line, walk_of}
use Rattle.rl_nodes.specs.declared.parts.Part.{Part}
use Rattle.rl_nodes.specs.Nodes.{Node}

-- the part has the seat, the mind and the record of the node
pub record IsPartOfNode (node : Node) (part : Part) : Type 0 where
  pub own : seat_id part.seat ≡ node.rails
  pub line : seat_line part.seat ≡ node.line
  pub walk : walk_of part.seat ≡ node.walk
  pub mind : part.mind ≡ node.walk.mind
  pub events : part.record ≡ node.log

pub record ArePartsOf (nodes : List Node) (parts : List Part) : Type 0 where
  pub all_here : length parts ≡ length nodes
  pub each : (i : ℕ) (node : Node) (part : Part) → slice_get nodes i ≡ Some node → slice_get parts i ≡ Some part
      → IsPartOfNode node part
