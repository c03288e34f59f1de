-- The seats from which nodes are laid, and the nodes at the start.
use Rattle.std.specs.Prelude.{◌≡◌, ℕ, List, [], length, slice_get, Some}
use Rattle.rl_base.specs.Layout.{node_count}
use Rattle.rl_tables.specs.Starts.{layout_of}
use Rattle.rl_rule.specs.declared.seats.NodeSeat.{NodeSeat}
use Rattle.rl_rule.specs.declared.rails.Rails.{Rails}
use Rattle.rl_rule.specs.Seats.{rails_id, rails_line, rails_tries, handed, taken, seat_id, seat_line, walk_of}
use Rattle.rl_rule.specs.Views.{start_walk}
use Rattle.rl_nodes.specs.Nodes.{Node}

-- the seat of node n of these rails, which has done nothing yet
pub record IsStartSeat (rails : Rails) (n : ℕ) (seat : NodeSeat) : Type 0 where
  pub own : seat_id seat ≡ rails_id rails
  pub line : seat_line seat ≡ rails_line rails
  pub walk : walk_of seat ≡ start_walk (rails_line rails) (rails_tries rails) n

-- the seats of all nodes of these rails, in order
pub record AreSeatsOf (rails : Rails) (seats : List NodeSeat) : Type 0 where
  pub all_handed : handed rails ≡ node_count (layout_of (rails_line rails))
  pub none_taken : taken rails ≡ []
  pub all_here : length seats ≡ handed rails
  pub each : (i : ℕ) (seat : NodeSeat) → slice_get seats i ≡ Some seat → IsStartSeat rails i seat

-- node n at the start, with an empty record of so many events, without room
abbrev pub start_node : Rails → ℕ → ℕ → Node
start_node rails limit n =
    record {
      rails = rails_id rails;
      line = rails_line rails;
      tries = rails_tries rails;
      walk = start_walk (rails_line rails) (rails_tries rails) n;
      scan = 0;
      log = record { events = []; limit = limit; spare = 0 };
      turns = 0;
    }

abbrev pub AreStartNodes : Rails → ℕ → List Node → Type 0
AreStartNodes rails limit nodes =
    (i : ℕ) (node : Node) → slice_get nodes i ≡ Some node → node ≡ start_node rails limit i

-- the nodes at these seats, in order
pub record AreLaid (rails : Rails) (limit : ℕ) (seats : List NodeSeat) (nodes : List Node) : Type 0 where
  pub all_here : length nodes ≡ length seats
  pub each : (i : ℕ) (seat : NodeSeat) → slice_get seats i ≡ Some seat
      → slice_get nodes i ≡ Some (start_node rails limit (walk_of seat).node.0)

-- the seats of the first nodes, so many
pub record AreFirstSeats (rails : Rails) (count : ℕ) (seats : List NodeSeat) : Type 0 where
  pub all_here : length seats ≡ count
  pub each : (i : ℕ) (seat : NodeSeat) → slice_get seats i ≡ Some seat → IsStartSeat rails i seat
