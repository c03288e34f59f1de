-- The state of a core: every word, and the mind and the clock of every node; the event that a node makes of it.
use Rattle.std.specs.Prelude.{ℕ, zero, suc, ◌==◌, max, List, [], ◌∷◌, ◌++◌, slice_get, slice_set, Option, Some, option_map, option_and_then, if◌then◌else◌}
use Rattle.std.specs.Option.{option_map_or}
use Rattle.rl_base.specs.declared.layout.NodeKind.{NodeKind}
use Rattle.rl_base.specs.declared.layout.NodeKind.TheVariants as nodes
use Rattle.rl_base.specs.Layout.{word_count}
use Rattle.rl_words.specs.Stamps.{stamp_in, payload_in, stamped}
use Rattle.rl_record.specs.declared.event.Event.{Event}
use Rattle.rl_tables.specs.declared.table.Tables.{Tables}
use Rattle.rl_tables.specs.Starts.{layout_of, start_payload}
use Rattle.rl_train.specs.Mind.{start_train}
use Rattle.rl_box.specs.Mind.{start_box}
use Rattle.rl_track.specs.Track.{start_track}
use Rattle.rl_steps.specs.declared.mind.Mind.{Mind}
use Rattle.rl_steps.specs.declared.mind.Mind.TheVariants.{Train, Track, Box, Machine}
use Rattle.rl_steps.specs.Numbers.{node_at, word_at}
use Rattle.rl_steps.specs.Step.{node_step}

-- words by their numbers, minds and clocks by the numbers of their nodes
pub record CoreState : Type 0 where
  pub words : List ℕ
  pub minds : ℕ → Mind
  pub clocks : ℕ → ℕ

-- the function with the value v at n
abbrev pub with_value : {A : Type 0} → (ℕ → A) → ℕ → A → ℕ → A
with_value f n v m = if m == n then v else f m

-- the mind of each node at the start
abbrev pub start_mind_of : ℕ → Option NodeKind → Mind
start_mind_of tries (Some (nodes.Train t)) = Train (start_train tries)
start_mind_of tries (Some (nodes.Track t)) = Track start_track
start_mind_of tries (Some (nodes.Box b)) = Box start_box
start_mind_of tries _ = Machine record {}

abbrev pub start_mind : Tables → ℕ → ℕ → Mind
start_mind tables tries n = start_mind_of tries (node_at (layout_of tables) n)

-- the first words at the start, each with stamp 0
abbrev pub start_word : Tables → ℕ → ℕ
start_word tables w = option_map_or (start_payload tables) (word_at (layout_of tables) w) 0

abbrev pub start_words : Tables → ℕ → List ℕ
start_words tables zero = []
start_words tables (suc w) = start_words tables w ++ start_word tables w ∷ []

-- the words say what the tables do, the minds are at their start, and every clock is 0
abbrev pub start : Tables → ℕ → CoreState
start tables tries =
    record {
      words = start_words tables (word_count (layout_of tables));
      minds = start_mind tables tries;
      clocks = λ n. 0;
    }

-- the stamp of a node's next event on a word: one more than its clock and than the word's stamp
abbrev pub next_stamp : ℕ → ℕ → ℕ
next_stamp clock was = suc (max clock (stamp_in was))

abbrev pub event_at : ℕ → ℕ → ℕ → ℕ → ℕ → Event
event_at node stamp word was payload =
    record {
      node = record { 0 = node };
      stamp = stamp;
      word = record { 0 = word };
      was = was;
      now =
          stamped stamp payload;
    }

-- the event that node n makes on word w, if it has a step there
abbrev pub event_of : Tables → CoreState → ℕ → ℕ → Option Event
event_of tables c n w =
    option_and_then (λ was. option_map (λ r. event_at n (next_stamp (c.clocks n) was) w was r.0)
    (node_step tables n (c.minds n) w (payload_in was))) (slice_get c.words w)

-- the mind of the event's node after it
abbrev pub mind_after : Tables → CoreState → Event → Mind
mind_after tables c e =
    option_map_or (λ r. r.1) (node_step tables e.node.0 (c.minds e.node.0) e.word.0 (payload_in e.was))
    (c.minds e.node.0)

-- the state after an event: its word, and the mind and the clock of its node are new
abbrev pub after : Tables → CoreState → Event → CoreState
after tables c e =
    record {
      words = slice_set c.words e.word.0 e.now;
      minds = with_value c.minds e.node.0 (mind_after tables c e);
      clocks = with_value c.clocks e.node.0 e.stamp;
    }
