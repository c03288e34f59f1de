-- One line more of a schedule text.
use Rattle.std.proofs.Common.{◌≡◌, ℕ, ◌+◌, ◌<◌, ◌≤◌, nat_lt, true, false, List, [], ◌∷◌, ◌++◌, length, Option, Some, None, Ok, Err, refl}
use Rattle.std.proofs.lemmas.Bool.{lt-ltb, le-ltb}
use Rattle.rl_base.specs.declared.limits.TheConstants.{MAX_TURNS}
use Rattle.rl_model.specs.declared.network.NetworkPlan.{NetworkPlan}
use Rattle.rl_text.specs.Lines.{Line}
use Rattle.rl_schedule.specs.declared.refusal.ScheduleRefusal.{ScheduleRefusal}
use Rattle.rl_schedule.specs.declared.refusal.ScheduleRefusal.TheVariants as refusals
use Rattle.rl_schedule.specs.declared.schedules.Item.{Item}
use Rattle.rl_schedule.specs.Given.{item_at}
use Rattle.rl_schedule.specs.Orders.{Order, order_of}
use Rattle.rl_schedule.specs.Readings.{if_few, item_in, item_of, items_after, nodes_of}
use Rattle.rl_schedule.specs.Turns.{turn_count, turns_together}

pub item_read : (net : NetworkPlan) (items : List Item) (line : Line) (lines : List Line) (item : Item) → item_in net items line ≡ Ok item
    → items_after net items (line ∷ lines) ≡ items_after net (items ++ item ∷ []) lines
item_read net items line lines item is = rw (is, items_after) refl

-- the item of a line, or its refusal, is that of the line behind these items, if with it there aren't too many turns
pub item_behind : (net : NetworkPlan) (items : List Item) (n : ℕ) (line : Line) (item : Item) → n ≡ length items + 1 → item_at net n line ≡ Ok item
    → item_in net items line ≡ if_few net items item
item_behind net items n line item number is = by (order_of line) refl
  where
    ordered : (order : Order) → order_of line ≡ Some order → (o : Option Item) → item_of net order ≡ o → item_in net items line ≡ if_few net items item
    ordered order e None f = let no : Err (refusals.NoNode n) ≡ Ok item = rw (e, f) at is in absurd (cc)
    ordered order e (Some other) f =
        let same = rw (e, f) at is in
        let item_same : other ≡ item = cc in
        rw (e, f, item_same) refl

    by : (o : Option Order) → order_of line ≡ o → item_in net items line ≡ if_few net items item
    by None e = let no : Err (refusals.Line n) ≡ Ok item = rw e at is in absurd (cc)
    by (Some order) e = ordered order e (item_of net order) refl

pub refusal_behind : (net : NetworkPlan) (items : List Item) (n : ℕ) (line : Line) (refusal : ScheduleRefusal) → n ≡ length items + 1
    → item_at net n line ≡ Err refusal → item_in net items line ≡ Err refusal
refusal_behind net items n line refusal number is = by (order_of line) refl
  where
    ordered : (order : Order) → order_of line ≡ Some order → (o : Option Item) → item_of net order ≡ o → item_in net items line ≡ Err refusal
    ordered order e None f =
        let same = rw (e, f) at is in
        rw (e, f, ← number) same
    ordered order e (Some other) f = let no : Ok other ≡ Err refusal = rw (e, f) at is in absurd (cc)

    by : (o : Option Order) → order_of line ≡ o → item_in net items line ≡ Err refusal
    by None e =
        let same = rw e at is in
        rw (e, ← number) same
    by (Some order) e = ordered order e (item_of net order) refl

pub if_over : (net : NetworkPlan) (items : List Item) (n : ℕ) (item : Item) → n ≡ length items + 1
    → MAX_TURNS < turns_together (nodes_of net) items + turn_count (nodes_of net) item → if_few net items item ≡ Err (refusals.TooMany n)
if_over net items n item number over =
    let yes : nat_lt MAX_TURNS (turns_together (nodes_of net) items + turn_count (nodes_of net) item) ≡ true =
    lt-ltb MAX_TURNS (turns_together (nodes_of net) items + turn_count (nodes_of net) item) over in
    rw (yes, number) refl

pub if_within : (net : NetworkPlan) (items : List Item) (item : Item) → turns_together (nodes_of net) items + turn_count (nodes_of net) item ≤ MAX_TURNS
    → if_few net items item ≡ Ok item
if_within net items item few =
    let no : nat_lt MAX_TURNS (turns_together (nodes_of net) items + turn_count (nodes_of net) item) ≡ false =
    le-ltb MAX_TURNS (turns_together (nodes_of net) items + turn_count (nodes_of net) item) few in
    rw no refl
