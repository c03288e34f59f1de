-- A step as the sentences of the minds say it, and as a label of the whole state.
use Rattle.std.specs.Prelude.{◌≡◌, ℕ, ◌==◌, nat_lt, Option, None, if◌then◌else◌}
use Rattle.rl_base.specs.declared.ids.TrainId.{TrainId}
use Rattle.rl_base.specs.declared.layout.NodeKind.{NodeKind}
use Rattle.rl_words.specs.declared.resv.ResvWord.{ResvWord}
use Rattle.rl_words.specs.Resv.{arm_in}
use Rattle.rl_words.specs.Word.{Word, kind_of}
use Rattle.rl_words.specs.Word.Word.{Resv, Lock, Mail, Run, Sense}
use Rattle.rl_train.specs.declared.mind.TrainMind.{TrainMind}
use Rattle.rl_box.specs.declared.mind.BoxMind.{BoxMind}
use Rattle.rl_tables.specs.declared.table.BoxTable.{BoxTable}
use Rattle.rl_box.specs.Steps.{BoxStep}
use Rattle.rl_track.specs.declared.track.TrackMind.{TrackMind}
use Rattle.rl_protocol.specs.Line.{Line}
use Rattle.rl_protocol.specs.State.{State, put}
use Rattle.rl_protocol.specs.Steps.{Step, StepFits, next}
use Rattle.rl_protocol.specs.Nodes.{node_of, word_of}

-- who holds arm x by a reservation word, which has four arms
abbrev pub holder_in : ResvWord → ℕ → Option TrainId
holder_in w x = if nat_lt x 4 then arm_in w x else None

-- the word says this in the state
abbrev pub StateSays : State → Word → Type 0
StateSays s (Resv b v) = (x : ℕ) → s.resv b.0 x ≡ holder_in v x
StateSays s (Lock b v) = s.lock b.0 ≡ v
StateSays s (Mail t v) = s.mail t.0 ≡ v
StateSays s (Run t v) = s.run t.0 ≡ v
StateSays s (Sense t v) = s.sense t.0 ≡ v

-- the state with a word that says this
abbrev pub with_word : State → Word → State
with_word s (Resv b v) = record s { resv = λ c x. if c == b.0 then holder_in v x else s.resv c x }
with_word s (Lock b v) = record s { lock = put s.lock b.0 v }
with_word s (Mail t v) = record s { mail = put s.mail t.0 v }
with_word s (Run t v) = record s { run = put s.run t.0 v }
with_word s (Sense t v) = record s { sense = put s.sense t.0 v }

-- and with the mind of a node
abbrev pub with_train : State → ℕ → TrainMind → State
with_train s t mind = record s { trains = put s.trains t mind }

abbrev pub with_track : State → ℕ → TrackMind → State
with_track s t mind = record s { tracks = put s.tracks t mind }

abbrev pub with_box : State → ℕ → BoxMind → State
with_box s b mind = record s { boxes = put s.boxes b mind }

-- the node makes a step that leaves this state, in which its word is the one that changed
pub record MakesStep (line : Line) (s : State) (node : NodeKind) (word : Word) (after : State) : Type 0 where
  pub step : Step
  pub fits : StepFits line s step
  pub by_node : node_of step ≡ node
  pub on_word : word_of step ≡ kind_of word
  pub leaves : next line s step ≡ with_word after word

-- a box with this mind has a line at the word
pub record HasLine (table : BoxTable) (mind : BoxMind) (word : Word) : Type 0 where
  pub next : Word
  pub after : BoxMind
  pub line : BoxStep table mind word next after
