-- What a schedule text says on a network: its items, or the number of its first refusal and of the line.
use Rattle.std.specs.Prelude.{ℕ, ◌+◌, nat_lt, List, [], ◌∷◌, ◌++◌, length, Option, Some, None, option_map, position, bytes_eq, Result, Ok, Err, if◌then◌else◌}
use Rattle.rl_base.specs.declared.layout.Layout.{Layout}
use Rattle.rl_base.specs.declared.layout.NodeKind.TheVariants as nodes
use Rattle.rl_base.specs.declared.limits.TheConstants.{MAX_TURNS, MAX_SCHEDULE_BYTES}
use Rattle.rl_base.specs.Layout.{node_count, node_number}
use Rattle.rl_model.specs.declared.network.NetworkPlan.{NetworkPlan}
use Rattle.rl_model.specs.declared.network.SwitchBox.{SwitchBox}
use Rattle.rl_model.specs.declared.network.Train.{Train}
use Rattle.rl_text.specs.Lines.{Line, lines_of}
use Rattle.rl_schedule.specs.declared.refusal.ScheduleRefusal.{ScheduleRefusal}
use Rattle.rl_schedule.specs.declared.refusal.ScheduleRefusal.TheVariants as refusals
use Rattle.rl_schedule.specs.declared.roles.Role.{Role}
use Rattle.rl_schedule.specs.declared.roles.Role.TheVariants as roles
use Rattle.rl_schedule.specs.declared.schedules.Item.{Item}
use Rattle.rl_schedule.specs.declared.schedules.Item.TheVariants.{Turn, Round}
use Rattle.rl_schedule.specs.Orders.{Order, order_of}
use Rattle.rl_schedule.specs.Turns.{turn_count, turns_together}

-- how many boxes and trains the network has, and how many nodes
abbrev pub plan_layout : NetworkPlan → Layout
plan_layout net = record { boxes = length net.boxes; trains = length net.trains }

abbrev pub nodes_of : NetworkPlan → ℕ
nodes_of net = node_count (plan_layout net)

-- the number of the train and of the box of that name
abbrev pub train_named : NetworkPlan → List ℕ → Option ℕ
train_named net name = position (λ (t : Train). bytes_eq t.name name) net.trains

abbrev pub box_named : NetworkPlan → List ℕ → Option ℕ
box_named net name = position (λ (b : SwitchBox). bytes_eq b.name name) net.boxes

-- the number of the node of that role and name
abbrev pub number_in : NetworkPlan → Role → List ℕ → Option ℕ
number_in net roles.Train name =
    option_map (λ t. node_number (plan_layout net) (nodes.Train (record { 0 = t }))) (train_named net name)
number_in net roles.Track name =
    option_map (λ t. node_number (plan_layout net) (nodes.Track (record { 0 = t }))) (train_named net name)
number_in net roles.SwitchBox name =
    option_map (λ b. node_number (plan_layout net) (nodes.Box (record { 0 = b }))) (box_named net name)
number_in net roles.Machine name =
    option_map (λ b. node_number (plan_layout net) (nodes.Machine (record { 0 = b }))) (box_named net name)

-- the item that is ordered, if the node is there
abbrev pub item_of : NetworkPlan → Order → Option Item
item_of net (Order.turns node count) =
    option_map (λ n. Turn (record { 0 = n }) count) (number_in net node.role node.name)
item_of net (Order.rounds count) = Some (Round count)

-- the item that is ordered in the next line, where these were read before; or the refusal of the line: of those that
-- hold the one with the least number
abbrev pub if_few : NetworkPlan → List Item → Item → Result Item ScheduleRefusal
if_few net items item =
    if nat_lt MAX_TURNS (turns_together (nodes_of net) items + turn_count (nodes_of net) item)
    then Err (refusals.TooMany (length items + 1)) else Ok item

abbrev pub if_there : NetworkPlan → List Item → Option Item → Result Item ScheduleRefusal
if_there net items None = Err (refusals.NoNode (length items + 1))
if_there net items (Some item) = if_few net items item

abbrev pub if_given : NetworkPlan → List Item → Option Order → Result Item ScheduleRefusal
if_given net items None = Err (refusals.Line (length items + 1))
if_given net items (Some order) = if_there net items (item_of net order)

abbrev pub item_in : NetworkPlan → List Item → Line → Result Item ScheduleRefusal
item_in net items line = if_given net items (order_of line)

-- all items, where these were read and these lines are left, or the first refusal
abbrev pub items_after : NetworkPlan → List Item → List Line → Result (List Item) ScheduleRefusal
items_after net items [] = Ok items
items_after net items (line ∷ lines) =
    elim (item_in net items line) [ Ok item ↦ items_after net (items ++ item ∷ []) lines | Err refusal ↦ Err refusal ]

-- the items of a schedule text, or its first refusal: one that is too long has no line
abbrev pub schedule_of : NetworkPlan → List ℕ → Result (List Item) ScheduleRefusal
schedule_of net text =
    if nat_lt MAX_SCHEDULE_BYTES (length text) then Err (refusals.TooMany 0) else items_after net [] (lines_of text)
