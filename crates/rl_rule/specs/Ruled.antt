-- The rule that the table keeps: there is one list of events, newest first, that is a run, and every seat knows its
-- part.
use Rattle.std.specs.Prelude.{◌≡◌, ◌≢◌, ℕ, ◌<◌, ◌≤◌, ◌==◌, nat_lt, ◌&&◌, List, [], ◌∷◌}
use Rattle.std.specs.Prelude.{length, filter, slice_get, Some, if◌then◌else◌}
use mathlib.Core.Option.{some}
use lib.ListN.{get_elem?}
use Rattle.atomic_table.specs.Table.{State}
use Rattle.rl_base.specs.declared.limits.TheConstants.{MAX_EVENTS}
use Rattle.rl_base.specs.Tries.{AreFewTries}
use Rattle.rl_base.specs.Layout.{node_count, word_count}
use Rattle.rl_words.specs.Owner.{Owns}
use Rattle.rl_words.specs.Stamps.{payload_in}
use Rattle.rl_record.specs.declared.event.Event.{Event}
use Rattle.rl_record.specs.Merge.{history}
use Rattle.rl_tables.specs.declared.table.Tables.{Tables}
use Rattle.rl_tables.specs.Kept.{IsLine}
use Rattle.rl_tables.specs.Starts.{layout_of}
use Rattle.rl_steps.specs.Run.{IsRun, state}
use Rattle.rl_rule.specs.declared.views.Load.{Load}
use Rattle.rl_rule.specs.declared.views.Walk.{Walk}
use Rattle.rl_rule.specs.declared.views.Kept.{Kept}
use Rattle.rl_rule.specs.declared.views.Role.{Role}
use Rattle.rl_rule.specs.declared.views.Role.TheVariants.{Root, Node, Spent}
use Rattle.rl_rule.specs.declared.views.View.{View}

-- a word that the node loaded at a value that it owns still has that value
pub record IsFresh (tables : Tables) (words : List ℕ) (n : ℕ) (load : Load) : Type 0 where
  pub there : load.word.0 < word_count (layout_of tables)
  pub still : Owns (layout_of tables) load.word.0 (payload_in load.value) n
      → slice_get words load.word.0 ≡ Some load.value

-- the node's own events of the log are its history, and its mind and clock are those of the state that the log leaves
pub record IsWalk (tables : Tables) (tries : ℕ) (log : List Event) (walk : Walk) : Type 0 where
  pub history : walk.history ≡ history walk.node.0 log
  pub mind : walk.mind ≡ (state tables tries log).minds walk.node.0
  pub clock : walk.clock ≡ (state tables tries log).clocks walk.node.0
  pub fresh : (load : Load) → walk.load ≡ Some load → IsFresh tables (state tables tries log).words walk.node.0 load

pub record IsKept (tables : Tables) (tries : ℕ) (log : List Event) (kept : Kept) : Type 0 where
  pub history : kept.history ≡ history kept.node.0 log
  pub mind : kept.mind ≡ (state tables tries log).minds kept.node.0

abbrev pub AreKept : Tables → ℕ → List Event → List Kept → Type 0
AreKept tables tries log [] = Unit {0}
AreKept tables tries log (kept ∷ more) = IsKept tables tries log kept × AreKept tables tries log more

-- how often node n stands in the list
abbrev pub times : ℕ → List Kept → ℕ
times n taken = length (filter (λ kept. kept.node.0 == n) taken)

-- the first nodes, so many, were handed a seat. Each has a place: the seat that it is in, or 0 where it was taken in
pub record Places : Type 0 where
  pub handed : ℕ
  pub place : ℕ → ℕ

abbrev pub times_taken : Places → ℕ → ℕ
times_taken at n = if nat_lt n at.handed && (at.place n == 0) then 1 else 0

-- what the rails know, in seat 0
pub record KnowsRoot (tables : Tables) (tries : ℕ) (log : List Event) (at : Places) (seat : ℕ) (view : View)
    : Type 0 where
  pub first : seat ≡ 0
  pub line : view.line ≡ tables
  pub tries_are : view.tries ≡ tries
  pub handed : view.handed ≡ at.handed
  pub kept : AreKept tables tries log view.taken
  pub taken : (n : ℕ) → times n view.taken ≡ times_taken at n

-- what a node knows, in a seat of its own
pub record KnowsNode (tables : Tables) (tries : ℕ) (log : List Event) (at : Places) (seat : ℕ) (view : View)
    : Type 0 where
  pub later : seat ≢ 0
  pub line : view.line ≡ tables
  pub tries_are : view.tries ≡ tries
  pub handed : view.walk.node.0 < at.handed
  pub place : at.place view.walk.node.0 ≡ seat
  pub walk : IsWalk tables tries log view.walk

abbrev pub Knows : Tables → ℕ → List Event → Places → ℕ → View → Role → Type 0
Knows tables tries log at seat view Root = KnowsRoot tables tries log at seat view
Knows tables tries log at seat view Node = KnowsNode tables tries log at seat view
Knows tables tries log at seat view Spent = Unit {0}

-- the view of the seat is there, plays this role, and is of this node
pub record IsRootAt (views : List View) (seat : ℕ) : Type 0 where
  pub view : View
  pub there : get_elem? views seat ≡ some view
  pub role : view.role ≡ Root

pub record IsNodeAt (views : List View) (seat n : ℕ) : Type 0 where
  pub view : View
  pub there : get_elem? views seat ≡ some view
  pub role : view.role ≡ Node
  pub node : view.walk.node.0 ≡ n

pub record IsRuled (tables : Tables) (tries : ℕ) (s : State (Unit {0}) View) : Type 0 where
  pub line : IsLine tables
  pub few_tries : AreFewTries tries
  pub log : List Event
  pub run : IsRun tables tries log
  pub words : s.words ≡ (state tables tries log).words
  pub places : Places
  pub few : places.handed ≤ node_count (layout_of tables)
  pub unborn : (n : ℕ) → places.handed ≤ n → history n log ≡ []
  pub short : (n : ℕ) → length (history n log) ≤ MAX_EVENTS
  pub root : IsRootAt s.views 0
  pub nodes : (n : ℕ) → n < places.handed → places.place n ≢ 0 → IsNodeAt s.views (places.place n) n
  pub each : (seat : ℕ) (view : View) → get_elem? s.views seat ≡ some view
      → Knows tables tries log places seat view view.role
