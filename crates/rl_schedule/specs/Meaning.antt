-- What each answer to a schedule text says of it.
use Rattle.std.specs.Prelude.{◌≡◌, ℕ, ◌+◌, ◌<◌, ◌≤◌, ◌⊎◌, List, length, slice_get, Some, Result, Ok, Err}
use Rattle.rl_base.specs.declared.layout.NodeKind.{NodeKind}
use Rattle.rl_base.specs.declared.layout.NodeKind.TheVariants as nodes
use Rattle.rl_base.specs.declared.limits.TheConstants.{MAX_TURNS, MAX_SCHEDULE_BYTES}
use Rattle.rl_base.specs.Layout.{node_number}
use Rattle.rl_model.specs.declared.network.NetworkPlan.{NetworkPlan}
use Rattle.rl_model.specs.Network.{IsTrainOf, IsBoxOf, train_name, box_name}
use Rattle.rl_text.specs.Lines.{Line, lines_of}
use Rattle.rl_schedule.specs.declared.refusal.ScheduleRefusal.{ScheduleRefusal}
use Rattle.rl_schedule.specs.declared.refusal.ScheduleRefusal.TheVariants as refusals
use Rattle.rl_schedule.specs.declared.roles.Role.TheVariants as roles
use Rattle.rl_schedule.specs.declared.schedules.Item.{Item}
use Rattle.rl_schedule.specs.declared.schedules.Item.TheVariants.{Turn, Round}
use Rattle.rl_schedule.specs.Orders.{NamedNode, Order, Gives}
use Rattle.rl_schedule.specs.Readings.{plan_layout, nodes_of}
use Rattle.rl_schedule.specs.Turns.{turn_count, turns_together}

-- the word names this node: its role is the node's, and its name is that of the node's train or box
abbrev pub Names : NetworkPlan → NamedNode → NodeKind → Type 0
Names net word (nodes.Train t) = IsTrainOf net t × (word ≡ record { role = roles.Train; name = train_name net t.0 })
Names net word (nodes.Track t) = IsTrainOf net t × (word ≡ record { role = roles.Track; name = train_name net t.0 })
Names net word (nodes.Box b) = IsBoxOf net b × (word ≡ record { role = roles.SwitchBox; name = box_name net b.0 })
Names net word (nodes.Machine b) = IsBoxOf net b × (word ≡ record { role = roles.Machine; name = box_name net b.0 })

-- on the network the order is that item
abbrev pub IsItemOf : NetworkPlan → Order → Item → Type 0
IsItemOf net (Order.turns word count) (Turn node times) =
    (times ≡ count) × (kind : NodeKind) × Names net word kind × (node.0 ≡ node_number (plan_layout net) kind)
IsItemOf net (Order.rounds count) (Round times) = times ≡ count
IsItemOf net _ _ = ⊥

-- the line gives an order that is this item
abbrev pub Says : NetworkPlan → Line → Item → Type 0
Says net line item = (order : Order) × Gives line order × IsItemOf net order item

-- the first lines of the text say these items, one a line, and together these have no more than 1,000,000 turns
pub record BeginsWith (net : NetworkPlan) (text : List ℕ) (items : List Item) : Type 0 where
  pub says : (i : ℕ) (item : Item) → slice_get items i ≡ Some item
      → (line : Line) × (slice_get (lines_of text) i ≡ Some line) × Says net line item
  pub few : turns_together (nodes_of net) items ≤ MAX_TURNS

-- line n, counted from 1, stands behind these lines, in which nothing is to be refused
pub record IsLineAfter (net : NetworkPlan) (text : List ℕ) (n : ℕ) (line : Line) (items : List Item) : Type 0 where
  pub number : n ≡ length items + 1
  pub stands : slice_get (lines_of text) (length items) ≡ Some line
  pub before : BeginsWith net text items

-- why the line is refused, where these items stand before it: it gives no order; it gives one, of a node that isn't
-- there; it says an item, with which there are more than 1,000,000 turns
abbrev pub GivesNone : Line → Type 0
GivesNone line = (order : Order) → ¬ (Gives line order)

abbrev pub NamesNone : NetworkPlan → Line → Type 0
NamesNone net line = (order : Order) × Gives line order × ((item : Item) → ¬ (IsItemOf net order item))

abbrev pub IsOver : NetworkPlan → Line → List Item → Type 0
IsOver net line items =
    (item : Item) × Says net line item ×
    (MAX_TURNS < turns_together (nodes_of net) items + turn_count (nodes_of net) item)

-- the refusal is that of line n; one at line 0 is of the whole text. Nothing in a text makes memory run out
abbrev pub IsRefusedBy : NetworkPlan → Line → List Item → ScheduleRefusal → Type 0
IsRefusedBy net line items (refusals.Line n) = GivesNone line
IsRefusedBy net line items (refusals.NoNode n) = NamesNone net line
IsRefusedBy net line items (refusals.TooMany n) = IsOver net line items
IsRefusedBy net line items refusals.NoMemory = ⊥

abbrev pub line_of : ScheduleRefusal → ℕ
line_of (refusals.Line n) = n
line_of (refusals.NoNode n) = n
line_of (refusals.TooMany n) = n
line_of refusals.NoMemory = 0

-- the first line of which a refusal holds, and of these the one with the least number
pub record IsFirstRefusal (net : NetworkPlan) (text : List ℕ) (refusal : ScheduleRefusal) : Type 0 where
  pub line : Line
  pub items : List Item
  pub at : IsLineAfter net text (line_of refusal) line items
  pub holds : IsRefusedBy net line items refusal

-- what an answer says of the text
abbrev pub Means : NetworkPlan → List ℕ → Result (List Item) ScheduleRefusal → Type 0
Means net text (Ok items) =
    (length text ≤ MAX_SCHEDULE_BYTES) × BeginsWith net text items × (length items ≡ length (lines_of text))
Means net text (Err refusal) =
    ((MAX_SCHEDULE_BYTES < length text) × (refusal ≡ refusals.TooMany 0)) ⊎
    ((length text ≤ MAX_SCHEDULE_BYTES) × IsFirstRefusal net text refusal)
