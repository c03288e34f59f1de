-- What a load tells a node of the word, beside its value.
use Rattle.std.specs.Prelude.{◌≡◌, ℕ, ◌+◌, ◌*◌, ◌≤◌, ◌==◌, List, find, Option, Some}
use Rattle.std.specs.Option.{option_map_or}
use Rattle.rl_base.specs.declared.limits.TheConstants.{MAX_BOXES, MAX_TRAINS, MAX_EVENTS}
use Rattle.rl_words.specs.Owner.{Owns}
use Rattle.rl_words.specs.Stamps.{stamp_in}
use Rattle.rl_record.specs.declared.event.Event.{Event}
use Rattle.rl_tables.specs.declared.table.Tables.{Tables}
use Rattle.rl_tables.specs.Starts.{layout_of}
use Rattle.rl_steps.specs.State.{start_word}

-- the last event of the history, which is newest first, on word w
abbrev pub last_on : ℕ → List Event → Option Event
last_on w history = find (λ e. e.word.0 == w) history

-- the most nodes of a line, and the most events that all of them make
abbrev pub most_nodes : ℕ
most_nodes = 2 * (MAX_TRAINS + MAX_BOXES)

abbrev pub most_events : ℕ
most_events = most_nodes * MAX_EVENTS

-- the word's stamp is at least that of the node's last event on it, and where the two are equal its value is the one
-- that this event wrote. The stamp leaves room for one more
pub record Tells (history : List Event) (w value : ℕ) : Type 0 where
  pub later : (e : Event) → last_on w history ≡ Some e → e.stamp ≤ stamp_in value
  pub same : (e : Event) → last_on w history ≡ Some e → stamp_in value ≡ e.stamp → value ≡ e.now
  pub room : stamp_in value ≤ most_events

-- nobody but node n may ever change the word
abbrev pub IsAlone : Tables → ℕ → ℕ → Type 0
IsAlone tables w n = (payload m : ℕ) → Owns (layout_of tables) w payload m → m ≡ n

-- what the node with this history wrote last, and what the word said at the start where it wrote nothing
abbrev pub last_value : Tables → List Event → ℕ → ℕ
last_value tables history w = option_map_or (λ e. e.now) (last_on w history) (start_word tables w)
