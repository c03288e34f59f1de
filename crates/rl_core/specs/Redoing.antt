-- When an event is the one that its node makes in a core.
use Rattle.std.specs.Prelude.{◌≡◌, ℕ, ◌<◌, slice_get, Some}
use Rattle.rl_base.specs.Layout.{node_count, word_count}
use Rattle.rl_words.specs.Stamps.{payload_in}
use Rattle.rl_record.specs.declared.event.Event.{Event}
use Rattle.rl_tables.specs.Starts.{layout_of}
use Rattle.rl_steps.specs.declared.mind.Mind.{Mind}
use Rattle.rl_steps.specs.Step.{node_step}
use Rattle.rl_core.specs.Cores.{Core, state_of}
use Rattle.rl_core.specs.Made.{event_in}

-- the event's node and word are there, and the word holds what the event says that it was
pub record Finds (core : Core) (e : Event) : Type 0 where
  pub node : e.node.0 < node_count (layout_of core.line)
  pub word : e.word.0 < word_count (layout_of core.line)
  pub was : slice_get core.words e.word.0 ≡ Some e.was

-- its node makes it by a step to this payload and this mind
pub record IsMadeBy (core : Core) (e : Event) (payload : ℕ) (mind : Mind) : Type 0 where
  pub found : Finds core e
  pub step : node_step core.line e.node.0 ((state_of core).minds e.node.0) e.word.0 (payload_in e.was)
      ≡ Some (payload, mind)
  pub event : e ≡ event_in core e.node.0 e.word.0 e.was payload
