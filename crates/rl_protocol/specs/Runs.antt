-- Runs: steps of any nodes in any order, each of which fits the state that the ones before it leave.
use Rattle.std.specs.Prelude.{ℕ, List, [], ◌∷◌, ◌++◌, option_to_list}
use Rattle.rl_model.specs.declared.moves.Move.{Move}
use Rattle.rl_protocol.specs.Line.{Line}
use Rattle.rl_protocol.specs.State.{State, start}
use Rattle.rl_protocol.specs.Steps.{Step, StepFits, next}
use Rattle.rl_protocol.specs.StepMoves.{move_of}

-- the state that the steps leave. A list of steps has the newest first
abbrev pub state_after : Line → ℕ → List Step → State
state_after line tries [] = start line tries
state_after line tries (step ∷ steps) = next line (state_after line tries steps) step

-- every step fits the state that those before it leave
abbrev pub IsStepRun : Line → ℕ → List Step → Type 0
IsStepRun line tries [] = Unit {0}
IsStepRun line tries (step ∷ steps) = IsStepRun line tries steps × StepFits line (state_after line tries steps) step

-- the moves of the steps, the oldest first
abbrev pub moves_of : Line → List Step → List Move
moves_of line [] = []
moves_of line (step ∷ steps) = moves_of line steps ++ option_to_list (move_of line step)
