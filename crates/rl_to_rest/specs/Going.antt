-- The nodes of some rails before and after their turns, and their parts in the end.
use Rattle.std.specs.Prelude.{◌≡◌, ℕ, true, List, length, slice_get, Some}
use Rattle.rl_rule.specs.declared.rails.Rails.{Rails}
use Rattle.rl_rule.specs.Seats.{rails_line}
use Rattle.rl_nodes.specs.declared.parts.Part.{Part}
use Rattle.rl_nodes.specs.Nodes.{Node, AreNodesOf, is_at_rest}
use Rattle.rl_nodes.specs.Parts.{AreParts}

-- all nodes of some rails are all nodes of these rails later on
pub record StillNodes (old new : List Node) : Type 0 where
  pub all_here : length new ≡ length old
  pub nodes : (rails : Rails) (limit : ℕ) → AreNodesOf rails limit old → AreNodesOf rails limit new

-- the parts of all nodes of these rails, each with a mind at rest
pub record ArePartsAtRest (rails : Rails) (parts : List Part) : Type 0 where
  pub all : AreParts rails parts
  pub rest : (i : ℕ) (part : Part) → slice_get parts i ≡ Some part → is_at_rest (rails_line rails) i part.mind ≡ true
