-- What is so of the state after every run: sizes, stamps, and minds that are well formed.
use Rattle.std.specs.Prelude.{◌≡◌, ℕ, ◌<◌, ◌≤◌, ◌^◌, length, slice_get, Some}
use Rattle.rl_base.specs.declared.layout.NodeKind.{NodeKind}
use Rattle.rl_base.specs.declared.layout.NodeKind.TheVariants as nodes
use Rattle.rl_base.specs.Layout.{word_count}
use Rattle.rl_words.specs.Stamps.{stamp_in}
use Rattle.rl_tables.specs.declared.table.Tables.{Tables}
use Rattle.rl_tables.specs.declared.table.BoxTable.{BoxTable}
use Rattle.rl_tables.specs.declared.table.TrainTable.{TrainTable}
use Rattle.rl_tables.specs.Starts.{layout_of}
use Rattle.rl_train.specs.Mind.{IsTrainMind}
use Rattle.rl_box.specs.Mind.{IsBoxMind}
use Rattle.rl_track.specs.Track.{IsTrackMind}
use Rattle.rl_steps.specs.declared.mind.Mind.{Mind}
use Rattle.rl_steps.specs.declared.mind.Mind.TheVariants.{Train, Track, Box, Machine}
use Rattle.rl_steps.specs.Numbers.{node_at}
use Rattle.rl_steps.specs.State.{CoreState}

-- the mind is one of the node's kind, and well formed
abbrev pub IsMindOf : Tables → NodeKind → Mind → Type 0
IsMindOf tables (nodes.Train t) (Train m) = (x : TrainTable) → slice_get tables.trains t.0 ≡ Some x → IsTrainMind x m
IsMindOf tables (nodes.Track t) (Track m) = IsTrackMind m
IsMindOf tables (nodes.Box b) (Box m) = (x : BoxTable) → slice_get tables.boxes b.0 ≡ Some x
    → IsBoxMind (layout_of tables) x m
IsMindOf tables (nodes.Machine b) (Machine m) = Unit {0}
IsMindOf tables node mind = ⊥

-- a state after so many events: every word is there and fits 64 bits, no stamp and no clock is above the number of
-- events, and each node has a well-formed mind of its kind
pub record IsSound (tables : Tables) (events : ℕ) (c : CoreState) : Type 0 where
  pub size : length c.words ≡ word_count (layout_of tables)
  pub words : (w v : ℕ) → slice_get c.words w ≡ Some v → (v < 2 ^ 64) × (stamp_in v ≤ events)
  pub clocks : (n : ℕ) → c.clocks n ≤ events
  pub minds : (n : ℕ) (node : NodeKind) → node_at (layout_of tables) n ≡ Some node → IsMindOf tables node (c.minds n)
