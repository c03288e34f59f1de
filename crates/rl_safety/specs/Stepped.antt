-- A run of events as a run of steps of the protocol, event by event.
use Rattle.std.specs.Prelude.{◌≡◌, ℕ, List, [], ◌∷◌, length, Some}
use Rattle.rl_base.specs.declared.layout.NodeKind.{NodeKind}
use Rattle.rl_record.specs.declared.event.Event.{Event}
use Rattle.rl_tables.specs.declared.table.Tables.{Tables}
use Rattle.rl_tables.specs.Starts.{layout_of}
use Rattle.rl_steps.specs.Numbers.{node_at}
use Rattle.rl_steps.specs.Run as runs
use Rattle.rl_steps.specs.State.{CoreState, after}
use Rattle.rl_protocol.specs.Counts.{events_of}
use Rattle.rl_protocol.specs.Nodes.{node_of}
use Rattle.rl_protocol.specs.Runs as protocol
use Rattle.rl_protocol.specs.StepMoves as moves
use Rattle.rl_protocol.specs.Steps.{Step, StepFits, next}
use Rattle.rl_protocol.specs.TableLine.{line_of}
use Rattle.rl_safety.specs.Counts.{events_by}
use Rattle.rl_safety.specs.Moves.{move_of, moves_of}
use Rattle.rl_safety.specs.Reading.{read}

-- the event is this step of the protocol in the state before it: the step fits there, is one of the event's node, has the
-- event's move, and leaves the state that the event leaves
pub record IsStepOf (tables : Tables) (tries : ℕ) (before : CoreState) (e : Event) (step : Step) : Type 0 where
  pub fits : StepFits (line_of tables) (read tables tries before) step
  pub by : node_at (layout_of tables) e.node.0 ≡ Some (node_of step)
  pub move : move_of tables e ≡ moves.move_of (line_of tables) step
  pub leaves : read tables tries (after tables before e) ≡ next (line_of tables) (read tables tries before) step

-- each event is the step beside it, in the state that the earlier events leave; both lists have the newest first
abbrev pub AreStepsOf : Tables → ℕ → List Event → List Step → Type 0
AreStepsOf tables tries [] [] = Unit {0}
AreStepsOf tables tries (e ∷ earlier) (step ∷ steps) =
    AreStepsOf tables tries earlier steps × IsStepOf tables tries (runs.state tables tries earlier) e step
AreStepsOf tables tries _ _ = ⊥

-- the run of steps of a run of events: step for event, with the same states, moves and counts
pub record IsStepped (tables : Tables) (tries : ℕ) (events : List Event) : Type 0 where
  pub steps : List Step
  pub run : protocol.IsStepRun (line_of tables) tries steps
  pub each : AreStepsOf tables tries events steps
  pub state : read tables tries (runs.state tables tries events) ≡ protocol.state_after (line_of tables) tries steps
  pub moves : moves_of tables events ≡ protocol.moves_of (line_of tables) steps
  pub count : length events ≡ length steps
  pub by : (n : ℕ) (node : NodeKind) → node_at (layout_of tables) n ≡ Some node
      → events_by n events ≡ events_of node steps
