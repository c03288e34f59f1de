-- The step of a node on a word, and the word at which a node looks: the one definition that turns, replays and threads
-- cite. A node sees its own table, its own mind and one word.
use Rattle.std.specs.Prelude.{◌≡◌, ℕ, ◌≤◌, length, Bool, true, false, Option, Some, None, option_map, option_and_then, slice_get}
use Rattle.rl_base.specs.declared.layout.NodeKind.{NodeKind}
use Rattle.rl_base.specs.declared.layout.NodeKind.TheVariants as nodes
use Rattle.rl_base.specs.declared.layout.WordKind.{WordKind}
use Rattle.rl_base.specs.Layout.{word_number}
use Rattle.rl_tables.specs.declared.table.Tables.{Tables}
use Rattle.rl_tables.specs.declared.table.BoxTable.{BoxTable}
use Rattle.rl_tables.specs.declared.table.TrainTable.{TrainTable}
use Rattle.rl_tables.specs.Starts.{layout_of}
use Rattle.rl_train.specs.Steps.{train_step, train_target}
use Rattle.rl_box.specs.Steps.{box_step, box_target}
use Rattle.rl_track.specs.Track.{track_step, track_target}
use Rattle.rl_track.specs.Machine.{machine_step, machine_target}
use Rattle.rl_box.specs.declared.mind.Work.{Work}
use Rattle.rl_box.specs.declared.mind.Work.TheVariants.{Ready, Serve, Say}
use Rattle.rl_steps.specs.declared.mind.Mind.{Mind}
use Rattle.rl_steps.specs.declared.mind.Mind.TheVariants.{Train, Track, Box, Machine}
use Rattle.rl_steps.specs.Numbers.{node_at, word_at}

-- the payload, with the mind as a mind of its kind of node
abbrev pub as_mind : {M : Type 0} → (M → Mind) → Option (ℕ × M) → Option (ℕ × Mind)
as_mind of step = option_map (λ r. (r.0, of r.1)) step

-- what a node with this mind does with a word of this kind that has this payload: the new payload and the new mind
abbrev pub step_of : Tables → NodeKind → Mind → WordKind → ℕ → Option (ℕ × Mind)
step_of tables (nodes.Train t) (Train m) word payload =
    option_and_then (λ (x : TrainTable). as_mind Train (train_step x m word payload)) (slice_get tables.trains t.0)
step_of tables (nodes.Track t) (Track m) word payload = as_mind Track (track_step t m word payload)
step_of tables (nodes.Box b) (Box m) word payload =
    option_and_then (λ (x : BoxTable). as_mind Box (box_step x m word payload)) (slice_get tables.boxes b.0)
step_of tables (nodes.Machine b) (Machine m) word payload = as_mind Machine (machine_step b m word payload)
step_of tables node mind word payload = None

-- the same by the numbers of node and word, and none for numbers out of range
unfoldable pub node_step : Tables → ℕ → Mind → ℕ → ℕ → Option (ℕ × Mind)
node_step tables n mind w payload =
    option_and_then (λ node. option_and_then (λ word. step_of tables node mind word payload)
    (word_at (layout_of tables) w))
    (node_at (layout_of tables) n)

-- a box that has nothing in hand
abbrev pub has_nothing : Work → Bool
has_nothing Ready = true
has_nothing (Serve t l) = false
has_nothing (Say t l answer) = false

abbrev pub is_ready : Mind → Bool
is_ready (Box m) = has_nothing m.work
is_ready mind = false

-- the word at which a node with this mind looks, a ready box by the place that it scans. A train at rest looks at none
abbrev pub target_kind : Tables → NodeKind → Mind → ℕ → Option WordKind
target_kind tables (nodes.Train t) (Train m) scan =
    option_and_then (λ (x : TrainTable). train_target x m) (slice_get tables.trains t.0)
target_kind tables (nodes.Track t) (Track m) scan = Some (track_target t m)
target_kind tables (nodes.Box b) (Box m) scan =
    option_map (λ (x : BoxTable). box_target (layout_of tables) x m scan) (slice_get tables.boxes b.0)
target_kind tables (nodes.Machine b) (Machine m) scan = Some (machine_target b)
target_kind tables node mind scan = None

abbrev pub target_of : Tables → ℕ → Mind → ℕ → Option ℕ
target_of tables n mind scan =
    option_and_then (λ node. option_map (word_number (layout_of tables)) (target_kind tables node mind scan))
    (node_at (layout_of tables) n)

-- it looks at word w, at some place that it may scan
pub record LooksAt (tables : Tables) (n : ℕ) (mind : Mind) (w : ℕ) : Type 0 where
  pub scan : ℕ
  pub within : scan ≤ length tables.trains
  pub target : target_of tables n mind scan ≡ Some w
