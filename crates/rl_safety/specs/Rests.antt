-- Trains at rest, by their minds.
use Rattle.std.specs.Prelude.{◌≡◌, ℕ, true, slice_get, Some}
use Rattle.rl_base.specs.declared.ids.TrainId.{TrainId}
use Rattle.rl_base.specs.declared.layout.NodeKind.TheVariants as nodes
use Rattle.rl_tables.specs.declared.table.Tables.{Tables}
use Rattle.rl_tables.specs.declared.table.TrainTable.{TrainTable}
use Rattle.rl_tables.specs.Starts.{layout_of}
use Rattle.rl_train.specs.declared.mind.TrainMind.{TrainMind}
use Rattle.rl_train.specs.Mind as trains
use Rattle.rl_steps.specs.declared.mind.Mind.{Mind}
use Rattle.rl_steps.specs.declared.mind.Mind.TheVariants.{Train, Track, Box, Machine}
use Rattle.rl_steps.specs.Numbers.{node_at}
use Rattle.rl_steps.specs.State.{CoreState}
use Rattle.rl_protocol.specs.Minds.{at_rest}
use Rattle.rl_protocol.specs.TableLine.{line_of}

-- the mind is that of a train, and at rest by the train's table
abbrev pub IsResting : TrainTable → Mind → Type 0
IsResting x (Train m) = trains.at_rest x m ≡ true
IsResting x (Track m) = ⊥
IsResting x (Box m) = ⊥
IsResting x (Machine m) = ⊥

-- the node of every train, which has the train's number, is at rest
abbrev pub AllTrainsRest : Tables → CoreState → Type 0
AllTrainsRest tables c = (t : ℕ) (x : TrainTable) → slice_get tables.trains t ≡ Some x → IsResting x (c.minds t)

-- node n is that of a train, whose mind is at rest
pub record IsTrainAtRest (tables : Tables) (c : CoreState) (n : ℕ) : Type 0 where
  pub train : TrainId
  pub mind : TrainMind
  pub node : node_at (layout_of tables) n ≡ Some (nodes.Train train)
  pub has : c.minds n ≡ Train mind
  pub rests : at_rest (line_of tables) train.0 mind ≡ true
