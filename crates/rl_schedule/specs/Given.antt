-- What was read of a line, as the order that it is, and the item that it is on a network.
use Rattle.std.specs.Prelude.{ℕ, List, [], Option, Some, None, Result, Ok, Err}
use Rattle.std.specs.Option.{option_map_or}
use Rattle.std.specs.Borrow.{Bor}
use Rattle.rl_model.specs.declared.network.NetworkPlan.{NetworkPlan}
use Rattle.rl_text.specs.declared.tokens.TextLine.{TextLine}
use Rattle.rl_text.specs.Lines.{Line}
use Rattle.rl_text.specs.Words.{words_of}
use Rattle.rl_schedule.specs.declared.orders.Given.{Given}
use Rattle.rl_schedule.specs.declared.orders.Given.TheVariants as given
use Rattle.rl_schedule.specs.declared.orders.GivenNode.{GivenNode}
use Rattle.rl_schedule.specs.declared.refusal.ScheduleRefusal.{ScheduleRefusal}
use Rattle.rl_schedule.specs.declared.refusal.ScheduleRefusal.TheVariants as refusals
use Rattle.rl_schedule.specs.declared.schedules.Item.{Item}
use Rattle.rl_schedule.specs.Orders.{NamedNode, Order, order_of}
use Rattle.rl_schedule.specs.Readings.{item_of}

-- a line as it is given, as a line of its text
abbrev pub line_of : TextLine → Line
line_of line = record { text = line.text.now; whole = line.whole }

-- the words of what follows a word, if anything does
abbrev pub words_in : Option (Bor (List ℕ)) → List (List ℕ)
words_in rest = option_map_or (λ (text : Bor (List ℕ)). words_of text.now) rest []

-- a node and an order that were read
abbrev pub named : GivenNode → NamedNode
named node = record { role = node.role; name = node.name.now }

abbrev pub ordered : Given → Order
ordered (given.Turns node count) = Order.turns (named node) count
ordered (given.Rounds count) = Order.rounds count

-- the item of line n, however many turns stand before it, or its refusal
abbrev pub item_named : ℕ → Option Item → Result Item ScheduleRefusal
item_named n None = Err (refusals.NoNode n)
item_named n (Some item) = Ok item

abbrev pub item_ordered : NetworkPlan → ℕ → Option Order → Result Item ScheduleRefusal
item_ordered net n None = Err (refusals.Line n)
item_ordered net n (Some order) = item_named n (item_of net order)

abbrev pub item_at : NetworkPlan → ℕ → Line → Result Item ScheduleRefusal
item_at net n line = item_ordered net n (order_of line)
