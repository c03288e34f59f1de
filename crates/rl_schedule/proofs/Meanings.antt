-- What the search answers to a schedule text is what is so of the text, and nothing else is.
use Rattle.std.proofs.Common.{◌≡◌, ℕ, zero, suc, ◌+◌, ◌<◌, ◌≤◌, true, false, nat_lt, List, [], ◌∷◌, ◌++◌, length, drop, slice_get, Option, Some, None, Result, Ok, Err, refl, sym, ap, ◌∙◌, subst, inl, inr, arith}
use Rattle.std.proofs.lemmas.Bool.{lt-ltb, le-ltb, cases_lt}
use Rattle.std.proofs.lemmas.List.{append_assoc, append-nil, length-append}
use Rattle.std.proofs.lemmas.List.Sums.{sum_by-append, sum_by-cons, sum_by_push}
use Rattle.std.proofs.Math.ListN.{drop_of_length-le}
use Rattle.rl_base.proofs.Lists.{each_push}
use Rattle.rl_base.specs.declared.limits.TheConstants.{MAX_TURNS, MAX_SCHEDULE_BYTES}
use Rattle.rl_model.specs.declared.network.NetworkPlan.{NetworkPlan}
use Rattle.rl_model.specs.Network.{IsNetwork}
use Rattle.rl_text.specs.Lines.{Line, lines_of}
use Rattle.rl_schedule.specs.declared.refusal.ScheduleRefusal.{ScheduleRefusal}
use Rattle.rl_schedule.specs.declared.refusal.ScheduleRefusal.TheVariants as refusals
use Rattle.rl_schedule.specs.declared.schedules.Item.{Item}
use Rattle.rl_schedule.specs.Turns.{turn_count, turns_together}
use Rattle.rl_schedule.specs.Orders.{Order, order_of}
use Rattle.rl_schedule.specs.Readings.{nodes_of, item_of, item_in, items_after, schedule_of}
use Rattle.rl_schedule.specs.Meaning.{Says, BeginsWith, IsLineAfter, IsRefusedBy, IsFirstRefusal, line_of, Means}
use Rattle.rl_schedule.specs.Refusals.{UnlessMemory}
use Rattle.rl_schedule.proofs.OrderWords.{order_given, given_order}
use Rattle.rl_schedule.proofs.Items.{item_said, said_item}
use Rattle.rl_schedule.proofs.Read.{item_read, if_over, if_within}

-- the answer of a line, by what is so of it
line_no_order : (net : NetworkPlan) (items : List Item) (line : Line) → order_of line ≡ None → item_in net items line ≡ Err (refusals.Line (length items + 1))
line_no_order net items line o = rw o refl

line_no_item : (net : NetworkPlan) (items : List Item) (line : Line) (order : Order) → order_of line ≡ Some order → item_of net order ≡ None
    → item_in net items line ≡ Err (refusals.NoNode (length items + 1))
line_no_item net items line order o i = rw (o, i) refl

line_over : (net : NetworkPlan) (items : List Item) (line : Line) (order : Order) (item : Item) → order_of line ≡ Some order → item_of net order ≡ Some item
    → MAX_TURNS < turns_together (nodes_of net) items + turn_count (nodes_of net) item → item_in net items line ≡ Err (refusals.TooMany (length items + 1))
line_over net items line order item o i over = rw (o, i) (if_over net items (length items + 1) item refl over)

line_item : (net : NetworkPlan) (items : List Item) (line : Line) (order : Order) (item : Item) → order_of line ≡ Some order → item_of net order ≡ Some item
    → turns_together (nodes_of net) items + turn_count (nodes_of net) item ≤ MAX_TURNS → item_in net items line ≡ Ok item
line_item net items line order item o i few = rw (o, i) (if_within net items item few)

refusal_read : (net : NetworkPlan) (items : List Item) (line : Line) (lines : List Line) (refusal : ScheduleRefusal) → item_in net items line ≡ Err refusal
    → items_after net items (line ∷ lines) ≡ Err refusal
refusal_read net items line lines refusal is = rw (is, items_after) refl

-- lines that say items are read to them
abbrev SayAll : NetworkPlan → List Line → List Item → Type 0
SayAll net lines items = (i : ℕ) (item : Item) → slice_get items i ≡ Some item → (line : Line) × (slice_get lines i ≡ Some line) × Says net line item

reads_on : (net : NetworkPlan) → IsNetwork net → (done : List Item) (lines : List Line) (more : List Item) → SayAll net lines more
    → turns_together (nodes_of net) (done ++ more) ≤ MAX_TURNS → items_after net done lines ≡ items_after net (done ++ more) (drop (length more) lines)
reads_on net network done lines [] says few = rw (append-nil done) refl
reads_on net network done [] (item ∷ more) says few = absurd (let s = says 0 item refl in let none : None ≡ Some s.0 = s.1 in cc)
reads_on net network done (line ∷ lines) (item ∷ more) says few =
    let s = says 0 item refl in
    let same : line ≡ s.0 = let e : Some line ≡ Some s.0 = s.1 in cc in
    let order : Order = s.2.0 in
    let given : order_of line ≡ Some order = given_order line order (rw same s.2.1) in
    let is : item_of net order ≡ Some item = said_item net network order item s.2.2 in
    let all : (done ++ item ∷ []) ++ more ≡ done ++ (item ∷ more) = append_assoc done (item ∷ []) more in
    let within : turns_together (nodes_of net) done + turn_count (nodes_of net) item ≤ MAX_TURNS =
    omega (arith, few, sum_by-append (turn_count (nodes_of net)) done (item ∷ more), sum_by-cons (turn_count (nodes_of net)) item more) in
    item_read net done line lines item (line_item net done line order item given is within)
    ∙ reads_on net network (done ++ item ∷ []) lines more (λ i x at. says (suc i) x at) (rw all few)
    ∙ ap (λ items. items_after net items (drop (length more) lines)) all

-- what the search answers is so of the text
line_at : (front : List Line) (line : Line) (lines : List Line) → slice_get (front ++ line ∷ lines) (length front) ≡ Some line
line_at [] line lines = refl
line_at (x ∷ front) line lines = line_at front line lines

stands_after : (net : NetworkPlan) (text : List ℕ) (front lines : List Line) (line : Line) (items : List Item) → BeginsWith net text items
    → lines_of text ≡ front ++ (line ∷ lines) → length front ≡ length items → IsLineAfter net text (length items + 1) line items
stands_after net text front lines line items begins is size =
    record { number = refl; stands = rw (is, ← size) (line_at front line lines); before = begins }

begins_on : (net : NetworkPlan) (text : List ℕ) (front lines : List Line) (line : Line) (items : List Item) (item : Item) → BeginsWith net text items
    → lines_of text ≡ front ++ (line ∷ lines) → length front ≡ length items → Says net line item
    → turns_together (nodes_of net) items + turn_count (nodes_of net) item ≤ MAX_TURNS → BeginsWith net text (items ++ item ∷ [])
begins_on net text front lines line items item begins is size says few =
    record {
      says = each_push (λ i x. (l : Line) × (slice_get (lines_of text) i ≡ Some l) × Says net l x) items item begins.says
          (line, (stands_after net text front lines line items begins is size).stands, says);
      few = omega (arith, few, sum_by_push (turn_count (nodes_of net)) items item);
    }

-- with one item more it holds of the lines behind
abbrev GoesOn : NetworkPlan → List ℕ → List Item → List Line → Type 0
GoesOn net text items lines =
    (item : Item) → BeginsWith net text (items ++ item ∷ []) → Means net text (items_after net (items ++ item ∷ []) lines)

means_after : (net : NetworkPlan) → IsNetwork net → (text : List ℕ) → length text ≤ MAX_SCHEDULE_BYTES → (front lines : List Line) (items : List Item)
    → BeginsWith net text items → lines_of text ≡ front ++ lines → length front ≡ length items → Means net text (items_after net items lines)
means_after net network text short front [] items begins is size =
    (short, begins, sym size ∙ ap length (sym (append-nil front)) ∙ ap length (sym is))
means_after net network text short front (line ∷ lines) items begins is size =
    by_order
    (λ item begins_next.
    let next : lines_of text ≡ (front ++ line ∷ []) ++ lines = is ∙ sym (append_assoc front (line ∷ []) lines) in
    let size_next : length (front ++ line ∷ []) ≡ length (items ++ item ∷ []) =
    omega (arith, size, length-append front (line ∷ []), length-append items (item ∷ [])) in
    means_after net network text short (front ++ line ∷ []) lines (items ++ item ∷ []) begins_next next size_next)
    (order_of line) refl
  where
    refused : (refusal : ScheduleRefusal) → item_in net items line ≡ Err refusal → IsFirstRefusal net text refusal
        → Means net text (items_after net items (line ∷ lines))
    refused refusal e first = subst (Means net text) (sym (refusal_read net items line lines refusal e)) (inr (short, first))

    by_count : GoesOn net text items lines → (order : Order) (item : Item) → order_of line ≡ Some order → item_of net order ≡ Some item
        → Means net text (items_after net items (line ∷ lines))
    by_count go order item o i =
        let says : Says net line item = (order, order_given line order o, item_said net order item i) in
        elim (cases_lt MAX_TURNS (turns_together (nodes_of net) items + turn_count (nodes_of net) item)) [
          | inl over ↦
              refused (refusals.TooMany (length items + 1)) (line_over net items line order item o i over)
              (record { line = line; items = items; at = stands_after net text front lines line items begins is size; holds = (item, says, over) })
          | inr few ↦
              subst (Means net text) (sym (item_read net items line lines item (line_item net items line order item o i few)))
              (go item (begins_on net text front lines line items item begins is size says few))
        ]

    by_item : GoesOn net text items lines → (order : Order) → order_of line ≡ Some order → (o : Option Item) → item_of net order ≡ o
        → Means net text (items_after net items (line ∷ lines))
    by_item go order o None i =
        refused (refusals.NoNode (length items + 1)) (line_no_item net items line order o i)
        (record {
          line = line;
          items = items;
          at = stands_after net text front lines line items begins is size;
          holds = (order, order_given line order o, λ item said. let both : None ≡ Some item = sym i ∙ said_item net network order item said in cc);
        })
    by_item go order o (Some item) i = by_count go order item o i

    by_order : GoesOn net text items lines → (o : Option Order) → order_of line ≡ o → Means net text (items_after net items (line ∷ lines))
    by_order go None e =
        refused (refusals.Line (length items + 1)) (line_no_order net items line e)
        (record {
          line = line;
          items = items;
          at = stands_after net text front lines line items begins is size;
          holds = λ order gives. let both : None ≡ Some order = sym e ∙ given_order line order gives in cc;
        })
    by_order go (Some order) e = by_item go order e (item_of net order) refl

begins_none : (net : NetworkPlan) (text : List ℕ) → BeginsWith net text []
begins_none net text = record { says = λ i item at. absurd (let none : None ≡ Some item = at in cc); few = omega arith }

short_read : (net : NetworkPlan) (text : List ℕ) → length text ≤ MAX_SCHEDULE_BYTES → schedule_of net text ≡ items_after net [] (lines_of text)
short_read net text short =
    let no : nat_lt MAX_SCHEDULE_BYTES (length text) ≡ false = le-ltb MAX_SCHEDULE_BYTES (length text) short in
    rw no refl

long_read : (net : NetworkPlan) (text : List ℕ) → MAX_SCHEDULE_BYTES < length text → schedule_of net text ≡ Err (refusals.TooMany 0)
long_read net text long =
    let yes : nat_lt MAX_SCHEDULE_BYTES (length text) ≡ true = lt-ltb MAX_SCHEDULE_BYTES (length text) long in
    rw yes refl

pub means : (net : NetworkPlan) → IsNetwork net → (text : List ℕ) → Means net text (schedule_of net text)
means net network text =
    elim (cases_lt MAX_SCHEDULE_BYTES (length text)) [
      | inl long ↦ subst (Means net text) (sym (long_read net text long)) (inl (long, refl))
      | inr short ↦ subst (Means net text) (sym (short_read net text short))
          (means_after net network text short [] (lines_of text) [] (begins_none net text) refl refl)
    ]

-- and what is so of the text is what it answers
drop_at : (lines : List Line) (k : ℕ) (line : Line) → slice_get lines k ≡ Some line → (rest : List Line) × (drop k lines ≡ line ∷ rest)
drop_at [] k line at = absurd (let none : None ≡ Some line = at in cc)
drop_at (x ∷ lines) zero line at = (lines, let same : x ≡ line = cc in ap (λ l. l ∷ lines) same)
drop_at (x ∷ lines) (suc k) line at = drop_at lines k line at

-- the refusal that is so of the line
refused_in : (net : NetworkPlan) → IsNetwork net → (line : Line) (items : List Item) (refusal : ScheduleRefusal) → line_of refusal ≡ length items + 1
    → IsRefusedBy net line items refusal → item_in net items line ≡ Err refusal
refused_in net network line items (refusals.Line n) number none = by (order_of line) refl
  where
    by : (o : Option Order) → order_of line ≡ o → item_in net items line ≡ Err (refusals.Line n)
    by None e = line_no_order net items line e ∙ ap (λ m. Err (refusals.Line m)) (sym number)
    by (Some order) e = absurd (none order (order_given line order e))
refused_in net network line items (refusals.NoNode n) number holds = by (item_of net holds.0) refl
  where
    by : (o : Option Item) → item_of net holds.0 ≡ o → item_in net items line ≡ Err (refusals.NoNode n)
    by None e = line_no_item net items line holds.0 (given_order line holds.0 holds.1) e ∙ ap (λ m. Err (refusals.NoNode m)) (sym number)
    by (Some item) e = absurd (holds.2 item (item_said net holds.0 item e))
refused_in net network line items (refusals.TooMany n) number holds =
    line_over net items line holds.1.0 holds.0 (given_order line holds.1.0 holds.1.1) (said_item net network holds.1.0 holds.0 holds.1.2) holds.2
    ∙ ap (λ m. Err (refusals.TooMany m)) (sym number)
refused_in net network line items refusals.NoMemory number holds = absurd holds

read_whole : (net : NetworkPlan) → IsNetwork net → (text : List ℕ) (items : List Item) → BeginsWith net text items
    → items_after net [] (lines_of text) ≡ items_after net items (drop (length items) (lines_of text))
read_whole net network text items begins = reads_on net network [] (lines_of text) items begins.says begins.few

first_refused : (net : NetworkPlan) → IsNetwork net → (text : List ℕ) (refusal : ScheduleRefusal) → IsFirstRefusal net text refusal
    → items_after net [] (lines_of text) ≡ Err refusal
first_refused net network text refusal first =
    let rest = drop_at (lines_of text) (length first.items) first.line first.at.stands in
    read_whole net network text first.items first.at.before ∙ ap (items_after net first.items) rest.1
    ∙ refusal_read net first.items first.line rest.0 refusal (refused_in net network first.line first.items refusal first.at.number first.holds)

pub only : (net : NetworkPlan) → IsNetwork net → (text : List ℕ) (other : Result (List Item) ScheduleRefusal) → Means net text other
    → schedule_of net text ≡ other
only net network text (Ok items) means =
    let within : length (lines_of text) ≤ length items = omega (arith, means.2) in
    let end : drop (length items) (lines_of text) ≡ [] = drop_of_length-le (lines_of text) within in
    short_read net text means.0 ∙ read_whole net network text items means.1 ∙ ap (items_after net items) end
only net network text (Err refusal) means =
    elim means [
      | inl long ↦ long_read net text long.0 ∙ ap Err (sym long.1)
      | inr short ↦ short_read net text short.0 ∙ first_refused net network text refusal short.1
    ]

-- the same of an answer that is that of the search, unless memory ran out
pub means_unless : (net : NetworkPlan) → IsNetwork net → (text : List ℕ) (answer : Result (List Item) ScheduleRefusal)
    → UnlessMemory answer (answer ≡ schedule_of net text) → UnlessMemory answer (Means net text answer)
means_unless net network text (Ok items) is = subst (Means net text) (sym is) (means net network text)
means_unless net network text (Err (refusals.Line n)) is = subst (Means net text) (sym is) (means net network text)
means_unless net network text (Err (refusals.NoNode n)) is = subst (Means net text) (sym is) (means net network text)
means_unless net network text (Err (refusals.TooMany n)) is = subst (Means net text) (sym is) (means net network text)
means_unless net network text (Err refusals.NoMemory) is = tt

pub only_unless : (net : NetworkPlan) → IsNetwork net → (text : List ℕ) (answer other : Result (List Item) ScheduleRefusal)
    → UnlessMemory answer (answer ≡ schedule_of net text) → Means net text other → UnlessMemory answer (answer ≡ other)
only_unless net network text (Ok items) other is means = is ∙ only net network text other means
only_unless net network text (Err (refusals.Line n)) other is means = is ∙ only net network text other means
only_unless net network text (Err (refusals.NoNode n)) other is means = is ∙ only net network text other means
only_unless net network text (Err (refusals.TooMany n)) other is means = is ∙ only net network text other means
only_unless net network text (Err refusals.NoMemory) other is means = tt

-- what was read of the lines is the answer to a text that is short enough
pub read_unless : (net : NetworkPlan) (text : List ℕ) (answer : Result (List Item) ScheduleRefusal) → length text ≤ MAX_SCHEDULE_BYTES
    → UnlessMemory answer (answer ≡ items_after net [] (lines_of text)) → UnlessMemory answer (answer ≡ schedule_of net text)
read_unless net text (Ok items) short is = is ∙ sym (short_read net text short)
read_unless net text (Err (refusals.Line n)) short is = is ∙ sym (short_read net text short)
read_unless net text (Err (refusals.NoNode n)) short is = is ∙ sym (short_read net text short)
read_unless net text (Err (refusals.TooMany n)) short is = is ∙ sym (short_read net text short)
read_unless net text (Err refusals.NoMemory) short is = tt
