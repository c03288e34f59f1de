-- What a look at a word makes of what a node knows.
use Rattle.std.specs.Prelude.{◌≡◌, ℕ, Some, None}
use Rattle.rl_words.specs.Stamps.{payload_in}
use Rattle.rl_record.specs.declared.event.Event.{Event}
use Rattle.rl_tables.specs.declared.table.Tables.{Tables}
use Rattle.rl_steps.specs.declared.mind.Mind.{Mind}
use Rattle.rl_steps.specs.Step.{node_step}
use Rattle.rl_steps.specs.Held.{HasMind}
use Rattle.rl_rule.specs.declared.views.Walk.{Walk}
use Rattle.rl_rule.specs.Views.{loaded, stepped}
use Rattle.rl_nodes.specs.declared.look.Look.{Look}
use Rattle.rl_nodes.specs.declared.look.Look.TheVariants.{Left, Made}
use Rattle.rl_nodes.specs.Turns.{LoadFinds, event_on}

-- the node has no step on the word at the value that it found
pub record LeavesWord (line : Tables) (w : ℕ) (old new : Walk) (value : ℕ) : Type 0 where
  pub finds : LoadFinds line old w value
  pub none : node_step line old.node.0 old.mind w (payload_in value) ≡ None
  pub walk : new ≡ loaded old w value

-- it makes its step there
pub record ChangesWord (line : Tables) (w : ℕ) (old new : Walk) (e : Event) (mind : Mind) : Type 0 where
  pub value : ℕ
  pub payload : ℕ
  pub finds : LoadFinds line old w value
  pub step : node_step line old.node.0 old.mind w (payload_in value) ≡ Some (payload, mind)
  pub event : e ≡ event_on old w value payload
  pub walk : new ≡ stepped (loaded old w value) e mind
  pub formed : HasMind line old.node.0 mind

abbrev pub IsLook : Tables → ℕ → Walk → Walk → Look → Type 0
IsLook line w old new (Left value) = LeavesWord line w old new value
IsLook line w old new (Made e mind) = ChangesWord line w old new e mind
