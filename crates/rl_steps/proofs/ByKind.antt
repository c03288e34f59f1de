-- The step and the target of a node by its kind.
use Rattle.std.proofs.Common.{◌≡◌, ℕ, Some, option_map, slice_get, refl}
use Rattle.rl_base.specs.declared.ids.BoxId.{BoxId}
use Rattle.rl_base.specs.declared.ids.TrainId.{TrainId}
use Rattle.rl_base.specs.declared.layout.NodeKind.{NodeKind}
use Rattle.rl_base.specs.declared.layout.NodeKind.TheVariants as nodes
use Rattle.rl_base.specs.declared.layout.WordKind.{WordKind}
use Rattle.rl_base.specs.Layout.{word_number}
use Rattle.rl_tables.specs.declared.table.Tables.{Tables}
use Rattle.rl_tables.specs.declared.table.BoxTable.{BoxTable}
use Rattle.rl_tables.specs.declared.table.TrainTable.{TrainTable}
use Rattle.rl_tables.specs.Starts.{layout_of}
use Rattle.rl_train.specs.declared.mind.TrainMind.{TrainMind}
use Rattle.rl_train.specs.Steps.{train_step, train_target}
use Rattle.rl_box.specs.declared.mind.BoxMind.{BoxMind}
use Rattle.rl_box.specs.Steps.{box_step, box_target}
use Rattle.rl_track.specs.declared.track.TrackMind.{TrackMind}
use Rattle.rl_track.specs.declared.machine.MachineMind.{MachineMind}
use Rattle.rl_track.specs.Track.{track_step, track_target}
use Rattle.rl_track.specs.Machine.{machine_step, machine_target}
use Rattle.rl_steps.specs.declared.mind.Mind.{Mind}
use Rattle.rl_steps.specs.declared.mind.Mind.TheVariants.{Train, Track, Box, Machine}
use Rattle.rl_steps.specs.Numbers.{node_at, word_at}
use Rattle.rl_steps.specs.Step.{node_step, step_of, as_mind, target_of}

pub step_at : (tables : Tables) (n w payload : ℕ) (node : NodeKind) (kind : WordKind) (mind : Mind) → node_at (layout_of tables) n ≡ Some node
    → word_at (layout_of tables) w ≡ Some kind → node_step tables n mind w payload ≡ step_of tables node mind kind payload
unfolding node_step
step_at tables n w payload node kind mind at is = rw (at, is) refl

pub train_step_at : (tables : Tables) (n w payload : ℕ) (t : TrainId) (x : TrainTable) (m : TrainMind) (kind : WordKind)
    → node_at (layout_of tables) n ≡ Some (nodes.Train t) → slice_get tables.trains t.0 ≡ Some x → word_at (layout_of tables) w ≡ Some kind
    → node_step tables n (Train m) w payload ≡ as_mind Train (train_step x m kind payload)
unfolding node_step
train_step_at tables n w payload t x m kind at there is = rw (at, is, there) refl

pub track_step_at : (tables : Tables) (n w payload : ℕ) (t : TrainId) (m : TrackMind) (kind : WordKind) → node_at (layout_of tables) n ≡ Some (nodes.Track t)
    → word_at (layout_of tables) w ≡ Some kind → node_step tables n (Track m) w payload ≡ as_mind Track (track_step t m kind payload)
unfolding node_step
track_step_at tables n w payload t m kind at is = rw (at, is) refl

pub box_step_at : (tables : Tables) (n w payload : ℕ) (b : BoxId) (x : BoxTable) (m : BoxMind) (kind : WordKind)
    → node_at (layout_of tables) n ≡ Some (nodes.Box b) → slice_get tables.boxes b.0 ≡ Some x → word_at (layout_of tables) w ≡ Some kind
    → node_step tables n (Box m) w payload ≡ as_mind Box (box_step x m kind payload)
unfolding node_step
box_step_at tables n w payload b x m kind at there is = rw (at, is, there) refl

pub machine_step_at : (tables : Tables) (n w payload : ℕ) (b : BoxId) (m : MachineMind) (kind : WordKind)
    → node_at (layout_of tables) n ≡ Some (nodes.Machine b) → word_at (layout_of tables) w ≡ Some kind
    → node_step tables n (Machine m) w payload ≡ as_mind Machine (machine_step b m kind payload)
unfolding node_step
machine_step_at tables n w payload b m kind at is = rw (at, is) refl

pub train_target_at : (tables : Tables) (n scan : ℕ) (t : TrainId) (x : TrainTable) (m : TrainMind) → node_at (layout_of tables) n ≡ Some (nodes.Train t)
    → slice_get tables.trains t.0 ≡ Some x → target_of tables n (Train m) scan ≡ option_map (word_number (layout_of tables)) (train_target x m)
train_target_at tables n scan t x m at there = rw (at, there) refl

pub track_target_at : (tables : Tables) (n scan : ℕ) (t : TrainId) (m : TrackMind) → node_at (layout_of tables) n ≡ Some (nodes.Track t)
    → target_of tables n (Track m) scan ≡ Some (word_number (layout_of tables) (track_target t m))
track_target_at tables n scan t m at = rw at refl

pub box_target_at : (tables : Tables) (n scan : ℕ) (b : BoxId) (x : BoxTable) (m : BoxMind) → node_at (layout_of tables) n ≡ Some (nodes.Box b)
    → slice_get tables.boxes b.0 ≡ Some x → target_of tables n (Box m) scan ≡ Some (word_number (layout_of tables) (box_target (layout_of tables) x m scan))
box_target_at tables n scan b x m at there = rw (at, there) refl

pub machine_target_at : (tables : Tables) (n scan : ℕ) (b : BoxId) (m : MachineMind) → node_at (layout_of tables) n ≡ Some (nodes.Machine b)
    → target_of tables n (Machine m) scan ≡ Some (word_number (layout_of tables) (machine_target b))
machine_target_at tables n scan b m at = rw at refl
