-- What contracts see of a record, and when records have a merge.
use Rattle.std.specs.Prelude.{◌≡◌, ◌↔◌, ℕ, ◌+◌, ◌-◌, ◌<◌, ◌≤◌, List, [], ◌∷◌, ◌++◌, All, AllPairs, Contains, flat_map, reverse, slice_get, Some}
use Rattle.rl_base.specs.Numbers.{IsU32}
use Rattle.rl_record.specs.declared.event.Event.{Event}
use Rattle.rl_record.specs.Merge.{history, IsMerge}

-- the events of one node, oldest first; the most that it may come to; and for how many more it has room now
pub record Record : Type 0 where
  pub events : List Event
  pub limit : ℕ
  pub spare : ℕ

-- there is room for so many more events in memory and within the limit
pub record HasRoom (events spare capacity limit : ℕ) : Type 0 where
  pub in_memory : events + spare ≤ capacity
  pub in_limit : events + spare ≤ limit
  pub limit_fits : IsU32 limit

-- the record with one more event, for which there was room
abbrev pub pushed : Record → Event → Record
pushed r e = record { events = r.events ++ e ∷ []; limit = r.limit; spare = r.spare - 1 }

-- the events of every record, one record after another
abbrev pub all_events : List Record → List Event
all_events records = flat_map (λ r. r.events) records

-- the stamps rise, oldest first
abbrev pub Rises : List Event → Type 0
Rises events = AllPairs (λ e f. e.stamp < f.stamp) events

-- the event stands in record i
abbrev pub IsIn : List Record → ℕ → Event → Type 0
IsIn records i e = (r : Record) × (slice_get records i ≡ Some r) × Contains r.events e

-- in each record the stamps rise, and two events are of one node exactly where they stand in one record
pub record AreHistories (records : List Record) : Type 0 where
  pub rise : All (λ r. Rises r.events) records
  pub of_one : (i : ℕ) (e f : Event) → IsIn records i e → IsIn records i f → e.node ≡ f.node
  pub apart : (i j : ℕ) (e f : Event) → IsIn records i e → IsIn records j f → e.node ≡ f.node → i ≡ j

-- record i of all is this one, and the events of node n are those that stand in it
pub record IsRecordOf (records : List Record) (i n : ℕ) (r : Record) : Type 0 where
  pub stands : slice_get records i ≡ Some r
  pub holds : (j : ℕ) (e : Event) → IsIn records j e → (e.node.0 ≡ n ↔ j ≡ i)

-- the record of node n stands at n
abbrev pub AreByNode : List Record → Type 0
AreByNode records =
    (n : ℕ) (r : Record) → slice_get records n ≡ Some r → Rises r.events × All (λ e. e.node.0 ≡ n) r.events

-- the list, oldest first, is the merge of the records: every event of every record once, ordered by stamps and nodes
abbrev pub IsMergeOf : List Record → List Event → Type 0
IsMergeOf records events = IsMerge (λ n. reverse (history n (all_events records))) (reverse events)
