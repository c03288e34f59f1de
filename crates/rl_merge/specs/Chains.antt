-- The two chains in which every event of the histories stands. By node: each event is the step of its node with the
-- mind and the clock that the events before it left. By word: each event found what the latest event on it left.
use Rattle.std.specs.Prelude.{◌≡◌, ℕ, ◌<◌, ◌≤◌, ◌⊎◌, List, [], ◌∷◌, Contains, slice_get, Some}
use Rattle.std.specs.Option.{option_map_or}
use Rattle.rl_words.specs.Stamps.{payload_in, stamped}
use Rattle.rl_record.specs.declared.event.Event.{Event}
use Rattle.rl_tables.specs.declared.table.Tables.{Tables}
use Rattle.rl_steps.specs.declared.mind.Mind.{Mind}
use Rattle.rl_steps.specs.Step.{node_step}
use Rattle.rl_steps.specs.State.{start, start_mind, next_stamp}

-- the mind and the clock of node n after its history, newest first
abbrev pub mind_left : Tables → ℕ → ℕ → List Event → Mind
mind_left tables tries n [] = start_mind tables tries n
mind_left tables tries n (e ∷ earlier) =
    option_map_or (λ r. r.1) (node_step tables n (mind_left tables tries n earlier) e.word.0 (payload_in e.was))
    (mind_left tables tries n earlier)

abbrev pub clock_left : List Event → ℕ
clock_left [] = 0
clock_left (e ∷ earlier) = e.stamp

-- the event is the step of node n, with this clock and this mind, on the whole word that it found
pub record IsNodeStep (tables : Tables) (n clock : ℕ) (mind : Mind) (e : Event) : Type 0 where
  pub made : ℕ × Mind
  pub node : e.node.0 ≡ n
  pub step : node_step tables n mind e.word.0 (payload_in e.was) ≡ Some made
  pub stamp : e.stamp ≡ next_stamp clock e.was
  pub now : e.now ≡ stamped e.stamp made.0

-- by node
abbrev pub IsNodeChain : Tables → ℕ → ℕ → List Event → Type 0
IsNodeChain tables tries n [] = Unit {0}
IsNodeChain tables tries n (e ∷ earlier) =
    IsNodeChain tables tries n earlier
    × IsNodeStep tables n (clock_left earlier) (mind_left tables tries n earlier) e

-- the event stands in the history of its node, and is one on word w
pub record IsOn (h : ℕ → List Event) (w : ℕ) (e : Event) : Type 0 where
  pub there : Contains (h e.node.0) e
  pub word : e.word.0 ≡ w

-- of the events on word w with a stamp below s it is the one with the greatest
pub record IsLatest (h : ℕ → List Event) (w s : ℕ) (e : Event) : Type 0 where
  pub on : IsOn h w e
  pub below : e.stamp < s
  pub greatest : (f : Event) → IsOn h w f → f.stamp < s → f.stamp ≤ e.stamp

-- no event on word w has a stamp below s, and at the start the word held v
pub record IsUntouched (tables : Tables) (tries : ℕ) (h : ℕ → List Event) (w s v : ℕ) : Type 0 where
  pub none : (f : Event) → IsOn h w f → s ≤ f.stamp
  pub began : slice_get (start tables tries).words w ≡ Some v

-- what word w held where all events with a stamp below s had been made
abbrev pub HeldBefore : Tables → ℕ → (ℕ → List Event) → (w s v : ℕ) → Type 0
HeldBefore tables tries h w s v = ((e : Event) × IsLatest h w s e × (e.now ≡ v)) ⊎ IsUntouched tables tries h w s v

-- the histories are chained: by node, and by word
pub record AreChained (tables : Tables) (tries : ℕ) (h : ℕ → List Event) : Type 0 where
  pub nodes : (n : ℕ) → IsNodeChain tables tries n (h n)
  pub apart : (w : ℕ) (e f : Event) → IsOn h w e → IsOn h w f → e.stamp ≡ f.stamp → e ≡ f
  pub found : (w : ℕ) (e : Event) → IsOn h w e → HeldBefore tables tries h w e.stamp e.was

-- the words and the minds are those that chained histories leave
pub record AreLeft (tables : Tables) (tries : ℕ) (h : ℕ → List Event) (words : List ℕ) (minds : ℕ → Mind) : Type 0 where
  pub words_are : (w v s : ℕ) → slice_get words w ≡ Some v → ((e : Event) → IsOn h w e → e.stamp < s)
      → HeldBefore tables tries h w s v
  pub minds_are : (n : ℕ) → minds n ≡ mind_left tables tries n (h n)
