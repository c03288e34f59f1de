-- An event as a step of the protocol: the step fits the state, leaves the mind and the word of the event, and has its
-- move.
use Rattle.std.specs.Prelude.{◌≡◌}
use Rattle.rl_base.specs.declared.layout.NodeKind.{NodeKind}
use Rattle.rl_base.specs.declared.layout.NodeKind.TheVariants as nodes
use Rattle.rl_words.specs.Word.{Word}
use Rattle.rl_tables.specs.declared.table.Tables.{Tables}
use Rattle.rl_steps.specs.declared.mind.Mind.{Mind}
use Rattle.rl_steps.specs.declared.mind.Mind.TheVariants.{Train, Track, Box}
use Rattle.rl_protocol.specs.State.{State, put}
use Rattle.rl_protocol.specs.Sentences.{with_word}
use Rattle.rl_protocol.specs.Steps.{Step, StepFits, next}
use Rattle.rl_protocol.specs.StepMoves.{move_of}
use Rattle.rl_protocol.specs.Nodes.{node_of}
use Rattle.rl_protocol.specs.TableLine.{line_of}
use Rattle.rl_safety.specs.Moves.{word_move}

-- the state with a new mind of the node
abbrev pub with_mind : State → NodeKind → Mind → State
with_mind s (nodes.Train t) (Train m) = record s { trains = put s.trains t.0 m }
with_mind s (nodes.Track t) (Track m) = record s { tracks = put s.tracks t.0 m }
with_mind s (nodes.Box b) (Box m) = record s { boxes = put s.boxes b.0 m }
with_mind s node mind = s

-- a step of the protocol by the node, which then has this mind, from the word seen to the word left
pub record IsLabel (tables : Tables) (s : State) (node : NodeKind) (mind : Mind) (seen left : Word) : Type 0 where
  pub step : Step
  pub fits : StepFits (line_of tables) s step
  pub leaves : next (line_of tables) s step ≡ with_word (with_mind s node mind) left
  pub moves : move_of (line_of tables) step ≡ word_move tables seen left
  pub by : node_of step ≡ node
