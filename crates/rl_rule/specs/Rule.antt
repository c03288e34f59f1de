-- The rule of the rails as it reads from the words and the views alone, in five parts: places, histories, chains, fresh
-- loads and bounds. Histories are newest first.
use Rattle.std.specs.Prelude.{◌≡◌, ℕ, ◌+◌, ◌<◌, ◌≤◌, ◌==◌, List, [], ◌∷◌, length, slice_get, Contains, Some, if◌then◌else◌}
use mathlib.Core.Option.{some}
use lib.ListN.{get_elem?}
use Rattle.rl_base.specs.declared.limits.TheConstants.{MAX_EVENTS}
use Rattle.rl_base.specs.Layout.{node_count, word_count}
use Rattle.rl_words.specs.Owner.{Owns}
use Rattle.rl_words.specs.Stamps.{payload_in}
use Rattle.rl_record.specs.declared.event.Event.{Event}
use Rattle.rl_tables.specs.declared.table.Tables.{Tables}
use Rattle.rl_tables.specs.Starts.{layout_of}
use Rattle.rl_merge.specs.Chains.{mind_left, clock_left, AreChained, AreLeft}
use Rattle.rl_rule.specs.declared.views.Load.{Load}
use Rattle.rl_rule.specs.declared.views.Kept.{Kept}
use Rattle.rl_rule.specs.declared.views.Role.{Role}
use Rattle.rl_rule.specs.declared.views.Role.TheVariants.{Root, Node, Spent}
use Rattle.rl_rule.specs.declared.views.View.{View}
use Rattle.rl_rule.specs.Ruled.{times}
use Rattle.rl_rule.specs.Histories.{IsHistory, sum_below}

-- in how many places of this view node n stands: it is the node's own seat, or its list has the node, so often
abbrev pub places_in : ℕ → View → Role → ℕ
places_in n view Root = times n view.taken
places_in n view Node = if view.walk.node.0 == n then 1 else 0
places_in n view Spent = 0

-- in how many places node n stands
abbrev pub places_of : ℕ → List View → ℕ
places_of n [] = 0
places_of n (view ∷ views) = places_in n view view.role + places_of n views

-- the rails' own view, which knows how many nodes were handed a seat. No other seat has one
pub record KeepsRoot (handed : ℕ) (views : List View) : Type 0 where
  pub seat : ℕ
  pub view : View
  pub there : get_elem? views seat ≡ some view
  pub role : view.role ≡ Root
  pub knows : view.handed ≡ handed
  pub one : (other : ℕ) (that : View) → get_elem? views other ≡ some that → that.role ≡ Root → other ≡ seat

-- places: each node that was handed a seat stands in exactly one place, a seat of its own or an entry of the list of the
-- rails. Every other node stands in none, and has no history
pub record KeepsPlaces (handed : ℕ) (histories : ℕ → List Event) (views : List View) : Type 0 where
  pub root : KeepsRoot handed views
  pub one : (n : ℕ) → n < handed → places_of n views ≡ 1
  pub none : (n : ℕ) → handed ≤ n → places_of n views ≡ 0
  pub unborn : (n : ℕ) → handed ≤ n → histories n ≡ []

-- histories: the stamps rise, every event is the node's; a node knows its history, and its clock is the last stamp
pub record KeepsHistories (histories : ℕ → List Event) (views : List View) : Type 0 where
  pub each : (n : ℕ) → IsHistory n (histories n)
  pub nodes : (seat : ℕ) (view : View) → get_elem? views seat ≡ some view → view.role ≡ Node
      → view.walk.history ≡ histories view.walk.node.0
  pub clocks : (seat : ℕ) (view : View) → get_elem? views seat ≡ some view → view.role ≡ Node
      → view.walk.clock ≡ clock_left view.walk.history

-- chains: each event is the step of its node and found what the one before it on its word left; the words are those
-- that the chains leave, and so are the minds that are known
pub record KeepsChains (tables : Tables) (tries : ℕ) (histories : ℕ → List Event) (words : List ℕ) (views : List View)
    : Type 0 where
  pub chained : AreChained tables tries histories
  pub left : AreLeft tables tries histories words (λ n. mind_left tables tries n (histories n))
  pub size : length words ≡ word_count (layout_of tables)
  pub minds : (seat : ℕ) (view : View) → get_elem? views seat ≡ some view → view.role ≡ Node
      → view.walk.mind ≡ mind_left tables tries view.walk.node.0 view.walk.history

-- what is kept of a node whose seat was taken in is its history, and the mind after it
abbrev pub IsKeptOf : Tables → ℕ → (ℕ → List Event) → Kept → Type 0
IsKeptOf tables tries histories kept =
    (kept.history ≡ histories kept.node.0) × (kept.mind ≡ mind_left tables tries kept.node.0 kept.history)

abbrev pub EachKept : Tables → ℕ → (ℕ → List Event) → List Kept → Type 0
EachKept tables tries histories [] = Unit {0}
EachKept tables tries histories (kept ∷ more) =
    IsKeptOf tables tries histories kept × EachKept tables tries histories more

-- fresh loads: where the last load of a node is a value that it owns, the word still has it
abbrev pub KeepsLoads : Tables → List ℕ → List View → Type 0
KeepsLoads tables words views =
    (seat : ℕ) (view : View) (load : Load) → get_elem? views seat ≡ some view → view.role ≡ Node
    → view.walk.load ≡ Some load → Owns (layout_of tables) load.word.0 (payload_in load.value) view.walk.node.0
    → slice_get words load.word.0 ≡ Some load.value

-- bounds: no history is too long, and no stamp is greater than the number of events of all nodes
pub record KeepsBounds (tables : Tables) (handed : ℕ) (histories : ℕ → List Event) : Type 0 where
  pub handed_few : handed ≤ node_count (layout_of tables)
  pub short : (n : ℕ) → length (histories n) ≤ MAX_EVENTS
  pub stamps : (n : ℕ) (e : Event) → Contains (histories n) e → e.stamp ≤ sum_below handed (λ m. length (histories m))

pub record Rule (tables : Tables) (tries : ℕ) (words : List ℕ) (views : List View) : Type 0 where
  pub handed : ℕ
  pub histories : ℕ → List Event
  pub places : KeepsPlaces handed histories views
  pub in_order : KeepsHistories histories views
  pub chains : KeepsChains tables tries histories words views
  pub taken : (seat : ℕ) (view : View) → get_elem? views seat ≡ some view → view.role ≡ Root
      → EachKept tables tries histories view.taken
  pub loads : KeepsLoads tables words views
  pub bounds : KeepsBounds tables handed histories
