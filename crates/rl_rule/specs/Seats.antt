-- What contracts see of the rails and of a node's seat.
use Rattle.std.specs.Prelude.{◌≡◌, ℕ, List}
use Rattle.atomic_table.specs.Seated.{TableId}
use Rattle.rl_tables.specs.declared.table.Tables.{Tables}
use Rattle.rl_rule.specs.declared.views.Walk.{Walk}
use Rattle.rl_rule.specs.declared.views.Kept.{Kept}
use Rattle.rl_rule.specs.declared.seats.NodeSeat.{NodeSeat}
use Rattle.rl_rule.specs.declared.rails.Rails.{Rails}

-- which rails they are, their line and the tries of its trains
abbrev pub rails_id : Rails → TableId
rails_id rails = rails.table.shared.table_id

abbrev pub rails_line : Rails → Tables
rails_line rails = rails.root.me.0.line

abbrev pub rails_tries : Rails → ℕ
rails_tries rails = rails.root.me.0.tries

-- how many nodes were handed a seat, and what is kept of those that were taken in, the last one first
abbrev pub handed : Rails → ℕ
handed rails = rails.root.me.0.handed

abbrev pub taken : Rails → List Kept
taken rails = rails.root.me.0.taken

pub record IsSameRails (old new : Rails) : Type 0 where
  pub id : rails_id new ≡ rails_id old
  pub line : rails_line new ≡ rails_line old
  pub tries : rails_tries new ≡ rails_tries old

-- whose seat it is, its line and the tries of its trains, and what its node knows
abbrev pub seat_id : NodeSeat → TableId
seat_id seat = seat.seat.table_id

abbrev pub seat_line : NodeSeat → Tables
seat_line seat = seat.seat.me.0.line

abbrev pub seat_tries : NodeSeat → ℕ
seat_tries seat = seat.seat.me.0.tries

abbrev pub walk_of : NodeSeat → Walk
walk_of seat = seat.seat.me.0.walk
