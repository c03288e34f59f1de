-- Replays of lists of events, oldest first.
use Rattle.std.specs.Prelude.{◌≡◌, ℕ, List, reverse, take, slice_get, Some}
use Rattle.rl_record.specs.declared.event.Event.{Event}
use Rattle.rl_tables.specs.declared.table.Tables.{Tables}
use Rattle.rl_steps.specs.Run.{EventFits, IsRun, state}
use Rattle.rl_steps.specs.Turn.{Drive}

-- the events as a run, which has the newest first, with each box at its first scan place
abbrev pub replayed : List Event → Drive
replayed events = record { events = reverse events; scans = λ n. 0 }

-- the events before event i, counted from 0, as a run
abbrev pub before : List Event → ℕ → List Event
before events i = reverse (take i events)

-- event i is the first that isn't the step of its node in the state that those before it leave
pub record IsFirstMisfit (tables : Tables) (tries : ℕ) (events : List Event) (i : ℕ) : Type 0 where
  pub event : Event
  pub there : slice_get events i ≡ Some event
  pub before_is : IsRun tables tries (before events i)
  pub misfit : EventFits tables (state tables tries (before events i)) event → ⊥
