-- What every run promises, whichever nodes made its events and in whatever order.
use Rattle.std.specs.Prelude.{◌≡◌, ℕ, ◌*◌, ◌<◌, ◌≤◌, true, List, length, slice_get, Some}
use Rattle.rl_base.specs.declared.layout.NodeKind.{NodeKind}
use Rattle.rl_base.specs.declared.limits.TheConstants.{MAX_ATTEMPT_EVENTS, MAX_ATTEMPT_NODE_EVENTS, MAX_ATTEMPT_MOVES}
use Rattle.rl_model.specs.declared.moves.Move.{Move}
use Rattle.rl_model.specs.declared.network.NetworkPlan.{NetworkPlan}
use Rattle.rl_model.specs.Moves.{IsMoveOf}
use Rattle.rl_model.specs.Network.{IsNetwork}
use Rattle.rl_model.specs.Reports.{refused_in, Rests}
use Rattle.rl_model.specs.Safety.{IsSafeRun, world_after}
use Rattle.rl_record.specs.declared.event.Event.{Event}
use Rattle.rl_tables.specs.declared.table.Tables.{Tables}
use Rattle.rl_tables.specs.Starts.{layout_of}
use Rattle.rl_tables.specs.Tables.{AreTablesOf}
use Rattle.rl_steps.specs.Numbers.{node_at}
use Rattle.rl_steps.specs.Run.{state}
use Rattle.rl_protocol.specs.Agreement.{Agrees}
use Rattle.rl_protocol.specs.Minds.{at_rest}
use Rattle.rl_protocol.specs.Refusals.{refusals_said}
use Rattle.rl_protocol.specs.Rest.{AllAtRest, HoldsSegmentsAlone}
use Rattle.rl_protocol.specs.State.{State}
use Rattle.rl_protocol.specs.TableLine.{line_of}
use Rattle.rl_safety.specs.Counts.{events_by, attempts_of}
use Rattle.rl_safety.specs.Moves.{moves_of}
use Rattle.rl_safety.specs.Readable.{AreReadable}
use Rattle.rl_safety.specs.Reading.{read}
use Rattle.rl_safety.specs.World.{world_of_core}

-- what minds and words say after the run
abbrev pub said : Tables → (tries : ℕ) → List Event → State
said tables tries events = read tables tries (state tables tries events)

-- the moves so far are a safe run of the network and name what it has, the words say the world that they made, and a
-- train whose mind is at rest rests there
pub record IsSafeOn (net : NetworkPlan) (tables : Tables) (tries : ℕ) (events : List Event) : Type 0 where
  pub safe : IsSafeRun net (moves_of tables events)
  pub named : (k : ℕ) (m : Move) → slice_get (moves_of tables events) k ≡ Some m → IsMoveOf net m
  pub world : world_of_core net tables (state tables tries events) ≡ world_after net (moves_of tables events)
  pub rests : (t : ℕ) → t < length net.trains
      → at_rest (line_of tables) t ((said tables tries events).trains t) ≡ true
      → Rests net (world_of_core net tables (state tables tries events)) t

-- minds and words agree, and every word can be read; the Refuse and Bar moves of each train are the refusals that were
-- said to it; events, those of each node, and moves are at most so many for each attempt that was opened, and each train
-- posts no more than its tries; where every train rests, each holds its own segment alone, no box is locked and no letter
-- is on its way; and the moves are safe on every network that has these tables
pub record KeepsPromises (tables : Tables) (tries : ℕ) (events : List Event) : Type 0 where
  pub agrees : Agrees (line_of tables) tries (said tables tries events)
  pub readable : AreReadable tables (state tables tries events)
  pub refusals : (t : ℕ) → refused_in (moves_of tables events) t ≡ refusals_said (said tables tries events) t
  pub few_attempts : attempts_of tables tries events ≤ length tables.trains * tries
  pub few_events : length events ≤ MAX_ATTEMPT_EVENTS * attempts_of tables tries events
  pub few_of_node : (n : ℕ) (node : NodeKind) → node_at (layout_of tables) n ≡ Some node
      → events_by n events ≤ MAX_ATTEMPT_NODE_EVENTS * attempts_of tables tries events
  pub few_moves : length (moves_of tables events) ≤ MAX_ATTEMPT_MOVES * attempts_of tables tries events
  pub at_rest : AllAtRest (line_of tables) (said tables tries events)
      → HoldsSegmentsAlone (line_of tables) (said tables tries events)
  pub on : (net : NetworkPlan) → IsNetwork net → AreTablesOf net tables → IsSafeOn net tables tries events
