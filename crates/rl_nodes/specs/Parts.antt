-- The parts of all nodes of some rails.
use Rattle.std.specs.Prelude.{◌≡◌, ℕ, List, [], length, slice_get, Some}
use Rattle.rl_base.specs.Layout.{node_count}
use Rattle.rl_tables.specs.Starts.{layout_of}
use Rattle.rl_rule.specs.declared.rails.Rails.{Rails}
use Rattle.rl_rule.specs.Seats.{rails_id, rails_line, handed, taken, seat_id, seat_line, walk_of}
use Rattle.rl_nodes.specs.declared.parts.Part.{Part}

-- the part of node n of these rails
pub record IsPartOf (rails : Rails) (n : ℕ) (part : Part) : Type 0 where
  pub own : seat_id part.seat ≡ rails_id rails
  pub line : seat_line part.seat ≡ rails_line rails
  pub number : (walk_of part.seat).node.0 ≡ n

-- the parts of all nodes of these rails, in order
pub record AreParts (rails : Rails) (parts : List Part) : Type 0 where
  pub all_handed : handed rails ≡ node_count (layout_of (rails_line rails))
  pub none_taken : taken rails ≡ []
  pub all_here : length parts ≡ handed rails
  pub each : (i : ℕ) (part : Part) → slice_get parts i ≡ Some part → IsPartOf rails i part
