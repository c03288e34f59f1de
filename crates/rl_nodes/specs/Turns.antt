-- What a turn makes of a node, and what it answers: one line for each answer, and no two of them can hold at once.
use Rattle.std.specs.Prelude.{◌≡◌, ℕ, ◌<◌, true, false, length, Option, Some, None}
use Rattle.rl_words.specs.Stamps.{payload_in}
use Rattle.rl_record.specs.declared.event.Event.{Event}
use Rattle.rl_record.specs.declared.event.Turn.{Turn}
use Rattle.rl_record.specs.declared.event.Turn.TheVariants.{Moved, Idle, Rest, Full}
use Rattle.rl_record.specs.Records.{pushed}
use Rattle.rl_tables.specs.declared.table.Tables.{Tables}
use Rattle.rl_steps.specs.declared.mind.Mind.{Mind}
use Rattle.rl_steps.specs.State.{next_stamp, event_at}
use Rattle.rl_steps.specs.Step.{node_step, target_of}
use Rattle.rl_steps.specs.Turn.{scan_after}
use Rattle.rl_rule.specs.declared.views.Walk.{Walk}
use Rattle.rl_rule.specs.Loads.{Tells, IsAlone, last_value}
use Rattle.rl_rule.specs.Views.{loaded, stepped}
use Rattle.rl_runner.specs.Turns.{raised}
use Rattle.rl_nodes.specs.Nodes.{Node, number, is_train_at_rest}

-- one turn more
abbrev pub counted : Node → Node
counted node = record node { turns = raised node.turns 1 }

-- one turn more, with a look at a word
abbrev pub gone_on : Node → Node
gone_on node = record (counted node) { scan = scan_after node.line node.walk.mind node.scan }

-- the record has room for one event more, and the node isn't a train at rest
pub record IsAtWork (node : Node) : Type 0 where
  pub room : length node.log.events < node.log.limit
  pub awake : is_train_at_rest node.line (number node) node.walk.mind ≡ false

-- one load of the word found this value, with what a load tells beside it
pub record LoadFinds (line : Tables) (walk : Walk) (w value : ℕ) : Type 0 where
  pub tells : Tells walk.history w value
  pub alone : IsAlone line w walk.node.0 → value ≡ last_value line walk.history w

-- the one load of this turn is of the target
pub record Looks (node : Node) (w value : ℕ) : Type 0 where
  pub at_work : IsAtWork node
  pub target : target_of node.line (number node) node.walk.mind node.scan ≡ Some w
  pub finds : LoadFinds node.line node.walk w value

-- what the node does with the word at this value
abbrev pub step_on : Node → ℕ → ℕ → Option (ℕ × Mind)
step_on node w value = node_step node.line (number node) node.walk.mind w (payload_in value)

-- it has no step there
pub record Idles (old new : Node) (value : ℕ) : Type 0 where
  pub word : ℕ
  pub looks : Looks old word value
  pub none : step_on old word value ≡ None
  pub after : new ≡ record (gone_on old) { walk = loaded old.walk word value }

-- the event of the step there, with the new payload
abbrev pub event_on : Walk → ℕ → ℕ → ℕ → Event
event_on walk w value payload = event_at walk.node.0 (next_stamp walk.clock value) w value payload

-- it makes the step, and the record takes the event
pub record Moves (old new : Node) (e : Event) : Type 0 where
  pub word : ℕ
  pub value : ℕ
  pub payload : ℕ
  pub mind : Mind
  pub looks : Looks old word value
  pub step : step_on old word value ≡ Some (payload, mind)
  pub event : e ≡ event_on old.walk word value payload
  pub after : new ≡ record (gone_on old) { walk = stepped (loaded old.walk word value) e mind; log = pushed old.log e }

abbrev pub IsTurn : Node → Node → Turn → Type 0
IsTurn old new (Moved e) = Moves old new e
IsTurn old new (Idle value) = Idles old new value
IsTurn old new Rest =
    (length old.log.events < old.log.limit) × (is_train_at_rest old.line (number old) old.walk.mind ≡ true)
    × (new ≡ counted old)
IsTurn old new Full = (length old.log.events ≡ old.log.limit) × (new ≡ counted old)
