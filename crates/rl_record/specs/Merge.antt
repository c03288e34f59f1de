-- The history of a node, and the merge of all histories: the one list of their events in the order of stamps, and of
-- nodes where stamps are equal. All lists here are newest first.
use Rattle.std.specs.Prelude.{◌≡◌, ℕ, ◌<◌, ◌==◌, ◌⊎◌, List, [], ◌∷◌, filter}
use Rattle.rl_record.specs.declared.event.Event.{Event}

-- the events of node n in a list, in its order
abbrev pub history : ℕ → List Event → List Event
history n events = filter (λ e. e.node.0 == n) events

-- the first event comes before the second
abbrev pub IsBefore : Event → Event → Type 0
IsBefore e f = (e.stamp < f.stamp) ⊎ ((e.stamp ≡ f.stamp) × (e.node.0 < f.node.0))

-- the event comes after each of the list
abbrev pub IsAfterAll : Event → List Event → Type 0
IsAfterAll e [] = Unit {0}
IsAfterAll e (f ∷ earlier) = IsBefore f e × IsAfterAll e earlier

-- newest first: each event comes after all that stand behind it
abbrev pub Falls : List Event → Type 0
Falls [] = Unit {0}
Falls (e ∷ earlier) = IsAfterAll e earlier × Falls earlier

-- the merge of one history for each node: in order, and of each node exactly its history
pub record IsMerge (histories : ℕ → List Event) (events : List Event) : Type 0 where
  pub falls : Falls events
  pub parts : (n : ℕ) → history n events ≡ histories n
