-- What an atomic step on the table tells the seat that makes it: its view after the step, by the number that it found
-- or stored.
use Rattle.std.specs.Prelude.{◌≡◌, ℕ, ◌≤◌, Some}
use Rattle.atomic_table.specs.Table.{Me, Step}
use Rattle.rl_words.specs.Stamps.{payload_in}
use Rattle.rl_tables.specs.declared.table.Tables.{Tables}
use Rattle.rl_steps.specs.declared.mind.Mind.{Mind}
use Rattle.rl_steps.specs.Step.{node_step}
use Rattle.rl_rule.specs.declared.views.Load.{Load}
use Rattle.rl_rule.specs.declared.views.Walk.{Walk}
use Rattle.rl_rule.specs.declared.views.View.{View}
use Rattle.rl_rule.specs.Views.{loaded, event_by, stepped}
use Rattle.rl_rule.specs.Loads.{Tells, IsAlone, last_value, most_events}
use Rattle.rl_rule.specs.Moments.{IsSeen}

-- a seat at the table: its view, and the slots that are out with it, of which there are none
abbrev pub Sat : Type 0
Sat = Me (Unit {0}) View

-- the view keeps the word and the value found, which is the node's own last one where the word is its alone; all that the
-- nodes have done so far is one run, which leaves the word at this value
abbrev pub loads : Step (Unit {0}) → Sat → ℕ → Sat → Type 0
loads step me found after =
    (after ≡ (record me.0 { walk = loaded me.0.walk step.word found }, me.1)) × Tells me.0.walk.history step.word found
    × (IsAlone me.0.line step.word me.0.walk.node.0 → found ≡ last_value me.0.line me.0.walk.history step.word)
    × IsSeen me.0.line me.0.tries me.0.walk step.word found

-- the mind's step on the last load gives this payload and this mind
pub record IsStep (line : Tables) (walk : Walk) (load : Load) (payload : ℕ) (mind : Mind) : Type 0 where
  pub loaded : walk.load ≡ Some load
  pub step : node_step line walk.node.0 walk.mind load.word.0 (payload_in load.value) ≡ Some (payload, mind)

-- the view gets the event, and the stamp is within its limit; all that the nodes have done by then is one run, which leaves
-- the word as the event does
abbrev pub steps : Step (Unit {0}) → Sat → ℕ → Sat → Type 0
steps step me stored after =
    (load : Load) (payload : ℕ) (mind : Mind) → IsStep me.0.line me.0.walk load payload mind
    → (after ≡ (record me.0 { walk = stepped me.0.walk (event_by me.0.walk load payload) mind }, me.1))
    × ((event_by me.0.walk load payload).stamp ≤ most_events)
    × IsSeen me.0.line me.0.tries (stepped me.0.walk (event_by me.0.walk load payload) mind) load.word.0
    (event_by me.0.walk load payload).now
