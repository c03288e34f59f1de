-- What a core and each of its turns promise of the railway, whichever run led there.
use Rattle.std.specs.Prelude.{◌≡◌, ◌↔◌, ℕ, true, Some}
use Rattle.rl_base.specs.declared.ids.BoxId.{BoxId}
use Rattle.rl_base.specs.declared.layout.NodeKind.TheVariants as nodes
use Rattle.rl_model.specs.declared.network.NetworkPlan.{NetworkPlan}
use Rattle.rl_model.specs.Network.{IsNetwork}
use Rattle.rl_record.specs.declared.event.Turn.{Turn}
use Rattle.rl_record.specs.declared.event.Turn.TheVariants.{Moved, Idle, Rest, Full}
use Rattle.rl_tables.specs.declared.table.Tables.{Tables}
use Rattle.rl_tables.specs.Starts.{layout_of}
use Rattle.rl_tables.specs.Tables.{AreTablesOf}
use Rattle.rl_steps.specs.Numbers.{node_at}
use Rattle.rl_steps.specs.State.{CoreState}
use Rattle.rl_steps.specs.Step.{is_ready}
use Rattle.rl_steps.specs.Turn.{Drive}
use Rattle.rl_safety.specs.Guarded.{IsGuarded}
use Rattle.rl_safety.specs.Promises.{KeepsPromises}
use Rattle.rl_safety.specs.Rests.{IsTrainAtRest}
use Rattle.rl_safety.specs.World.{world_of_core}
use Rattle.rl_core.specs.Cores.{Core, state_of, LeadsTo}

-- every run that leads to the core keeps what runs promise
abbrev pub RunsKeepPromises : Core → Type 0
RunsKeepPromises core = (d : Drive) → LeadsTo d core → KeepsPromises core.line core.tries d.events

-- a turn between two states, on a network that has the tables: every guard of its move holds in the world before, and the
-- world then is that after the move; without a move the world stays
abbrev pub IsTurnOn : NetworkPlan → Tables → CoreState → CoreState → Turn → Type 0
IsTurnOn net tables before then (Moved e) = IsGuarded net tables before then e
IsTurnOn net tables before then (Idle was) = world_of_core net tables then ≡ world_of_core net tables before
IsTurnOn net tables before then Rest = world_of_core net tables then ≡ world_of_core net tables before
IsTurnOn net tables before then Full = world_of_core net tables then ≡ world_of_core net tables before

-- what a turn of node n promises that came to this: it is one on every network that has the tables; it rests exactly
-- where the node is a train at rest; a box that idles is ready
pub record KeepsTurn (old new : Core) (n : ℕ) (says : Turn) : Type 0 where
  pub on : (net : NetworkPlan) → IsNetwork net → AreTablesOf net old.line
      → IsTurnOn net old.line (state_of old) (state_of new) says
  pub rests : (says ≡ Rest) ↔ IsTrainAtRest old.line (state_of old) n
  pub idles : (b : BoxId) (word : ℕ) → node_at (layout_of old.line) n ≡ Some (nodes.Box b) → says ≡ Idle word
      → is_ready ((state_of old).minds n) ≡ true
  pub runs : RunsKeepPromises new

-- what a turn without an event promises: words, minds and clocks stay, and with them the world; a box that makes it is
-- ready
pub record KeepsIdleTurn (old new : Core) (n : ℕ) : Type 0 where
  pub still : state_of new ≡ state_of old
  pub ready : (b : BoxId) → node_at (layout_of old.line) n ≡ Some (nodes.Box b) → is_ready ((state_of old).minds n) ≡ true
  pub runs : RunsKeepPromises new
