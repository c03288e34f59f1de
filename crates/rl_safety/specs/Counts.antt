-- How many events of a run a node has made, and how many attempts trains have opened after it.
use Rattle.std.specs.Prelude.{ℕ, ◌==◌, List, length, count_by}
use Rattle.rl_record.specs.declared.event.Event.{Event}
use Rattle.rl_tables.specs.declared.table.Tables.{Tables}
use Rattle.rl_steps.specs.Run.{state}
use Rattle.rl_protocol.specs.Counts.{attempts_opened}
use Rattle.rl_safety.specs.Reading.{read}

abbrev pub events_by : ℕ → List Event → ℕ
events_by n events = count_by (λ (e : Event). e.node.0 == n) events

-- how many attempts the trains have opened
abbrev pub attempts_of : Tables → ℕ → List Event → ℕ
attempts_of tables tries events =
    attempts_opened tries (read tables tries (state tables tries events)) (length tables.trains)
