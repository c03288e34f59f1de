-- A run with its premises: its words before and after its last event, and at its start.
use Rattle.std.proofs.Common.{◌≡◌, ℕ, ◌<◌, List, [], ◌∷◌, length, slice_get, slice_set, Some, sym, ◌∙◌, arith}
use Rattle.std.proofs.lemmas.Option.{slice_get_within}
use Rattle.rl_base.specs.Numbers.{IsU32}
use Rattle.rl_base.specs.Layout.{word_count}
use Rattle.rl_base.specs.Tries.{AreFewTries}
use Rattle.rl_record.specs.declared.event.Event.{Event}
use Rattle.rl_tables.specs.declared.table.Tables.{Tables}
use Rattle.rl_tables.specs.Kept.{IsLine}
use Rattle.rl_tables.specs.Starts.{layout_of}
use Rattle.rl_steps.specs.Run.{IsRun, state}
use Rattle.rl_steps.specs.State.{start_word, start_words}
use Rattle.rl_steps.proofs.Made.{IsMade, fits_made}
use Rattle.rl_steps.proofs.Options.{same_some, get_set_same, get_set_other}
use Rattle.rl_steps.proofs.Starts.{start_words-length, start_words-get}

-- a run with its premises
pub record Runs (tables : Tables) (tries : ℕ) (log : List Event) : Type 0 where
  pub line : IsLine tables
  pub few : AreFewTries tries
  pub room : IsU32 (length log)
  pub run : IsRun tables tries log

pub earlier : (tables : Tables) (tries : ℕ) (e : Event) (log : List Event) → Runs tables tries (e ∷ log) → Runs tables tries log
earlier tables tries e log runs = record { line = runs.line; few = runs.few; room = omega (arith, runs.room); run = runs.run.0 }

made_of : (tables : Tables) (tries : ℕ) (e : Event) (log : List Event) → Runs tables tries (e ∷ log) → IsMade tables (state tables tries log) e
made_of tables tries e log runs = fits_made tables (state tables tries log) e runs.run.1

-- the word after the event, and every other word
pub word_after : (tables : Tables) (tries : ℕ) (e : Event) (log : List Event) (w v : ℕ) → Runs tables tries (e ∷ log) → w ≡ e.word.0 →
    slice_get (state tables tries (e ∷ log)).words w ≡ Some v → v ≡ e.now
word_after tables tries e log w v runs here word =
    let there : slice_get (slice_set (state tables tries log).words e.word.0 e.now) e.word.0 ≡ Some e.now =
    get_set_same (state tables tries log).words e.word.0 e.was e.now (made_of tables tries e log runs).was in
    let word_here : slice_get (slice_set (state tables tries log).words e.word.0 e.now) e.word.0 ≡ Some v = rw here at word in
    same_some (slice_get (slice_set (state tables tries log).words e.word.0 e.now) e.word.0) v e.now word_here there

pub word_before : (tables : Tables) (tries : ℕ) (e : Event) (log : List Event) (w v : ℕ) → (w ≡ e.word.0 → ⊥) →
    slice_get (state tables tries (e ∷ log)).words w ≡ Some v → slice_get (state tables tries log).words w ≡ Some v
word_before tables tries e log w v away word = sym (get_set_other (state tables tries log).words e.word.0 w e.now away) ∙ word

pub start_value : (tables : Tables) (tries w v : ℕ) → slice_get (state tables tries []).words w ≡ Some v → v ≡ start_word tables w
start_value tables tries w v word =
    let size : length (start_words tables (word_count (layout_of tables))) ≡ word_count (layout_of tables) =
    start_words-length tables (word_count (layout_of tables)) in
    let within : w < length (start_words tables (word_count (layout_of tables))) =
    slice_get_within (start_words tables (word_count (layout_of tables))) w v word in
    let there : slice_get (start_words tables (word_count (layout_of tables))) w ≡ Some (start_word tables w) =
    start_words-get tables (word_count (layout_of tables)) w (omega arith) in
    same_some (slice_get (start_words tables (word_count (layout_of tables))) w) v (start_word tables w) word there
