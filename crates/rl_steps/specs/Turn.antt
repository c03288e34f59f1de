-- Turns: a node looks at its target and makes the event there, if it has one. A ready box goes round its scan places.
use Rattle.std.specs.Prelude.{ℕ, ◌+◌, ◌%◌, List, [], ◌∷◌, fold, length, slice_index_or, Option, Some, None, if◌then◌else◌}
use Rattle.rl_record.specs.declared.event.Event.{Event}
use Rattle.rl_record.specs.declared.event.Turn.{Turn}
use Rattle.rl_record.specs.declared.event.Turn.TheVariants.{Moved, Idle, Rest}
use Rattle.rl_tables.specs.declared.table.Tables.{Tables}
use Rattle.rl_steps.specs.declared.mind.Mind.{Mind}
use Rattle.rl_steps.specs.State.{CoreState, event_of, with_value}
use Rattle.rl_steps.specs.Run.{state}
use Rattle.rl_steps.specs.Step.{target_of, is_ready}

-- a core under way: its run, newest first, and the place at which each box scans, by the number of its node
pub record Drive : Type 0 where
  pub events : List Event
  pub scans : ℕ → ℕ

abbrev pub start_drive : Drive
start_drive = record { events = []; scans = λ n. 0 }

-- the places of a box are the mail words of the trains, and then its lock word
abbrev pub next_place : Tables → ℕ → ℕ
next_place tables place = (place + 1) % (length tables.trains + 1)

-- the place after a turn of a node with this mind: a box that is ready goes on to its next one
abbrev pub scan_after : Tables → Mind → ℕ → ℕ
scan_after tables mind scan = if is_ready mind then next_place tables scan else scan

abbrev pub scanned : Tables → Drive → ℕ → Mind → ℕ → ℕ
scanned tables d n mind = if is_ready mind then with_value d.scans n (next_place tables (d.scans n)) else d.scans

-- what a node that looks at word w comes to
abbrev pub answer_at : CoreState → ℕ → Option Event → Turn
answer_at c w None = Idle (slice_index_or c.words w 0)
answer_at c w (Some e) = Moved e

abbrev pub events_with : List Event → Option Event → List Event
events_with events None = events
events_with events (Some e) = e ∷ events

-- the word that node n looks at
abbrev pub target_in : Tables → CoreState → Drive → ℕ → Option ℕ
target_in tables c d n = target_of tables n (c.minds n) (d.scans n)

abbrev pub answer_of_target : Tables → CoreState → ℕ → Option ℕ → Turn
answer_of_target tables c n None = Rest
answer_of_target tables c n (Some w) = answer_at c w (event_of tables c n w)

abbrev pub events_of_target : Tables → CoreState → List Event → ℕ → Option ℕ → List Event
events_of_target tables c events n None = events
events_of_target tables c events n (Some w) = events_with events (event_of tables c n w)

-- what a turn of node n comes to, and where it leaves the core
abbrev pub answer_of : Tables → ℕ → Drive → ℕ → Turn
answer_of tables tries d n =
    let c = state tables tries d.events in answer_of_target tables c n (target_in tables c d n)

abbrev pub turn_of : Tables → ℕ → Drive → ℕ → Drive
turn_of tables tries d n =
    let c = state tables tries d.events in
    record {
      events = events_of_target tables c d.events n (target_in tables c d n);
      scans = scanned tables d n (c.minds n);
    }

-- the turns of the nodes, in order, from the start
abbrev pub driven : Tables → ℕ → List ℕ → Drive
driven tables tries nodes = fold (turn_of tables tries) start_drive nodes
