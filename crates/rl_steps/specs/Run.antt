-- Runs: lists of events, newest first, each of which is a step in the state that the events before it leave.
use Rattle.std.specs.Prelude.{◌≡◌, ℕ, List, [], ◌∷◌, Some}
use Rattle.rl_record.specs.declared.event.Event.{Event}
use Rattle.rl_tables.specs.declared.table.Tables.{Tables}
use Rattle.rl_steps.specs.State.{CoreState, start, event_of, after}

-- the event is the one that its node makes on its word in this state
abbrev pub EventFits : Tables → CoreState → Event → Type 0
EventFits tables c e = event_of tables c e.node.0 e.word.0 ≡ Some e

-- the state that the events leave
abbrev pub state : Tables → ℕ → List Event → CoreState
state tables tries [] = start tables tries
state tables tries (e ∷ earlier) = after tables (state tables tries earlier) e

-- each event fits the state that the earlier ones leave
abbrev pub IsRun : Tables → ℕ → List Event → Type 0
IsRun tables tries [] = Unit {0}
IsRun tables tries (e ∷ earlier) = IsRun tables tries earlier × EventFits tables (state tables tries earlier) e
