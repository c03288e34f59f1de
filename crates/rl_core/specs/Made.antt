-- A core after a step of a node, and after a ready box has gone on to its next scan place.
use Rattle.std.specs.Prelude.{ℕ, ◌+◌, slice_set, slice_index_or}
use Rattle.rl_words.specs.Stamps.{stamped}
use Rattle.rl_record.specs.declared.event.Event.{Event}
use Rattle.rl_steps.specs.declared.mind.Mind.{Mind}
use Rattle.rl_steps.specs.State.{event_at, next_stamp}
use Rattle.rl_steps.specs.Turn.{next_place}
use Rattle.rl_core.specs.Cores.{Core}

-- the stamp that node n gives to a word that was this
abbrev pub stamp_of : Core → ℕ → ℕ → ℕ
stamp_of core n was = next_stamp (slice_index_or core.clocks n 0) was

-- the event of node n on word w, with the new payload
abbrev pub event_in : Core → ℕ → ℕ → ℕ → ℕ → Event
event_in core n w was payload = event_at n (stamp_of core n was) w was payload

-- the core with word w, and with the mind and the clock of node n, after one more event
abbrev pub put_in : Core → (n w now stamp : ℕ) → Mind → Core
put_in core n w now stamp mind =
    record core {
      words = slice_set core.words w now;
      minds = slice_set core.minds n mind;
      clocks = slice_set core.clocks n stamp;
      events = core.events + 1;
    }

-- the core after the event
abbrev pub made : Core → ℕ → ℕ → ℕ → ℕ → Mind → Core
made core n w was payload mind = put_in core n w (stamped (stamp_of core n was) payload) (stamp_of core n was) mind

-- the core with the next scan place of node n
abbrev pub advanced : Core → ℕ → Core
advanced core n = record core { scans = slice_set core.scans n (next_place core.line (slice_index_or core.scans n 0)) }
