-- What contracts see of a node at work, and of all nodes of some rails.
use Rattle.std.specs.Prelude.{◌≡◌, ℕ, ◌-◌, ◌≤◌, ◌<◌, min, Bool, true, false}
use Rattle.std.specs.Prelude.{List, [], length, reverse, slice_get, slice_index_or, Some}
use Rattle.std.specs.Option.{option_map_or}
use Rattle.atomic_table.specs.Seated.{TableId}
use Rattle.rl_base.specs.declared.limits.TheConstants.{MAX_EVENTS}
use Rattle.rl_base.specs.Layout.{node_count}
use Rattle.rl_record.specs.Records.{Record}
use Rattle.rl_tables.specs.declared.table.Tables.{Tables}
use Rattle.rl_tables.specs.declared.table.TrainTable.{TrainTable}
use Rattle.rl_tables.specs.Starts.{layout_of}
use Rattle.rl_train.specs.Mind.{at_rest}
use Rattle.rl_steps.specs.declared.mind.Mind.{Mind}
use Rattle.rl_steps.specs.declared.mind.Mind.TheVariants.{Train}
use Rattle.rl_steps.specs.Held.{HasMind}
use Rattle.rl_rule.specs.declared.views.Walk.{Walk}
use Rattle.rl_rule.specs.declared.seats.NodeSeat.{NodeSeat}
use Rattle.rl_rule.specs.declared.rails.Rails.{Rails}
use Rattle.rl_rule.specs.Seats.{rails_id, rails_line, rails_tries, handed, taken, seat_id, seat_line, walk_of}

-- which rails it is on, their line and the tries of its trains; what it knows of itself, its mind and its history among
-- it; the place at which it scans; the record of what it made; and how many turns it has had
pub record Node : Type 0 where
  pub rails : TableId
  pub line : Tables
  pub tries : ℕ
  pub walk : Walk
  pub scan : ℕ
  pub log : Record
  pub turns : ℕ

abbrev pub number : Node → ℕ
number node = node.walk.node.0

abbrev pub turns_of : Node → ℕ
turns_of node = node.turns

-- the parts of a node fit: its seat is one of the rails; the mind is the one that the seat knows, and is well formed;
-- the record has the history that the seat knows, event for event
pub record IsWhole (rails : Rails) (line : Tables) (seat : NodeSeat) (mind : Mind) (scan : ℕ) (log : Record)
    : Type 0 where
  pub own : seat_id seat ≡ rails_id rails
  pub line_is : rails_line rails ≡ line
  pub seat_line_is : seat_line seat ≡ line
  pub there : (walk_of seat).node.0 < node_count (layout_of line)
  pub mind_is : (walk_of seat).mind ≡ mind
  pub formed : HasMind line (walk_of seat).node.0 mind
  pub place : scan ≤ length line.trains
  pub history_is : (walk_of seat).history ≡ reverse log.events
  pub few : log.limit ≤ MAX_EVENTS

abbrev pub node_of : Rails → Tables → NodeSeat → ℕ → Record → ℕ → Node
node_of rails line seat scan log turns =
    record {
      rails = rails_id rails;
      line = line;
      tries = rails_tries rails;
      walk = walk_of seat;
      scan = scan;
      log = log;
      turns = turns;
    }

-- the second is the first at a later time
pub record IsHome (first later : Node) : Type 0 where
  pub rails : later.rails ≡ first.rails
  pub line : later.line ≡ first.line
  pub tries : later.tries ≡ first.tries
  pub limit : later.log.limit ≡ first.log.limit

-- there is room for the events of n turns, or for as many as the record can still take
abbrev pub IsReady : ℕ → Node → Type 0
IsReady n node = min n (node.log.limit - length node.log.events) ≤ node.log.spare

-- the node is a train, and at rest
abbrev pub is_train_at_rest : Tables → ℕ → Mind → Bool
is_train_at_rest line n (Train m) =
    option_map_or (λ (t : TrainTable). at_rest t m) (slice_get line.trains n) false
is_train_at_rest line n mind = false

-- the node wants no turn any more: it is a train at rest, or no train
abbrev pub is_at_rest : Tables → ℕ → Mind → Bool
is_at_rest line n (Train m) = is_train_at_rest line n (Train m)
is_at_rest line n mind = true

abbrev pub rests : Node → Bool
rests node = is_at_rest node.line (number node) node.walk.mind

-- it is node n of these rails, with a record of so many events
pub record IsNodeOf (rails : Rails) (limit n : ℕ) (node : Node) : Type 0 where
  pub rails_are : node.rails ≡ rails_id rails
  pub line_is : node.line ≡ rails_line rails
  pub tries_are : node.tries ≡ rails_tries rails
  pub limit_is : node.log.limit ≡ limit
  pub number_is : number node ≡ n

-- all nodes of these rails, in order
pub record AreNodesOf (rails : Rails) (limit : ℕ) (nodes : List Node) : Type 0 where
  pub all_handed : handed rails ≡ node_count (layout_of (rails_line rails))
  pub none_taken : taken rails ≡ []
  pub all_here : length nodes ≡ handed rails
  pub each : (i : ℕ) (node : Node) → slice_get nodes i ≡ Some node → IsNodeOf rails limit i node

-- the node as it was, but for the room of its record
abbrev pub IsToppedUp : Node → Node → Type 0
IsToppedUp old new = new ≡ record old { log = record old.log { spare = new.log.spare } }

-- each of the nodes, in its place, as it was but for the room of its record
abbrev pub AreToppedUp : List Node → List Node → Type 0
AreToppedUp old new = (i : ℕ) (d : Node) → IsToppedUp (slice_index_or old i d) (slice_index_or new i d)
