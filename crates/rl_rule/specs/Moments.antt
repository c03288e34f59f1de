-- What is so at every moment, whatever the threads did: the words and the views are those of one run, the merge of what
-- the nodes have done so far.
use Rattle.std.specs.Prelude.{◌≡◌, ℕ, List, slice_get, Some}
use mathlib.Core.Option.{some}
use lib.ListN.{get_elem?}
use Rattle.rl_record.specs.declared.event.Event.{Event}
use Rattle.rl_record.specs.Merge.{history, IsMerge}
use Rattle.rl_tables.specs.declared.table.Tables.{Tables}
use Rattle.rl_steps.specs.Run.{IsRun, state}
use Rattle.rl_rule.specs.declared.views.Walk.{Walk}
use Rattle.rl_rule.specs.declared.views.Role.TheVariants.{Root, Node}
use Rattle.rl_rule.specs.declared.views.View.{View}
use Rattle.rl_rule.specs.Ruled.{AreKept}
use Rattle.rl_rule.specs.Rule.{Rule}

-- the node's own events of the log are its history, and the log leaves it its mind and its clock
pub record IsOwn (tables : Tables) (tries : ℕ) (log : List Event) (walk : Walk) : Type 0 where
  pub history : walk.history ≡ history walk.node.0 log
  pub mind : walk.mind ≡ (state tables tries log).minds walk.node.0
  pub clock : walk.clock ≡ (state tables tries log).clocks walk.node.0

-- the list is the merge of the histories; its replay succeeds, and leads to the words and to the minds in the views
pub record IsMoment (tables : Tables) (tries : ℕ) (histories : ℕ → List Event) (words : List ℕ) (views : List View) (merged : List Event)
    : Type 0 where
  pub merge : IsMerge histories merged
  pub run : IsRun tables tries merged
  pub words_are : words ≡ (state tables tries merged).words
  pub nodes : (seat : ℕ) (view : View) → get_elem? views seat ≡ some view → view.role ≡ Node → IsOwn tables tries merged view.walk
  pub taken : (seat : ℕ) (view : View) → get_elem? views seat ≡ some view → view.role ≡ Root → AreKept tables tries merged view.taken

-- at this moment word w has this value, and a node in a seat of its own knows this. The rule holds of all words and views
pub record IsSeen (tables : Tables) (tries : ℕ) (walk : Walk) (w value : ℕ) : Type 0 where
  pub words : List ℕ
  pub views : List View
  pub rule : Rule tables tries words views
  pub merged : List Event
  pub moment : IsMoment tables tries rule.histories words views merged
  pub seat : ℕ
  pub view : View
  pub there : get_elem? views seat ≡ some view
  pub role : view.role ≡ Node
  pub walk_is : view.walk ≡ walk
  pub word : slice_get words w ≡ Some value
