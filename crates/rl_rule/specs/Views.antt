-- What the seats at the table know, and how each kind of step changes it.
use Rattle.std.specs.Prelude.{ℕ, ◌+◌, [], ◌∷◌, Some, None}
use Rattle.rl_record.specs.declared.event.Event.{Event}
use Rattle.rl_tables.specs.declared.table.Tables.{Tables}
use Rattle.rl_steps.specs.declared.mind.Mind.{Mind}
use Rattle.rl_steps.specs.State.{start_mind, next_stamp, event_at}
use Rattle.rl_rule.specs.declared.views.Load.{Load}
use Rattle.rl_rule.specs.declared.views.Walk.{Walk}
use Rattle.rl_rule.specs.declared.views.Kept.{Kept}
use Rattle.rl_rule.specs.declared.views.View.{View}
use Rattle.rl_rule.specs.declared.views.Role.TheVariants.{Root, Node, Spent}

-- a node that has done nothing yet
abbrev pub start_walk : Tables → ℕ → ℕ → Walk
start_walk line tries n =
    record {
      node = record { 0 = n };
      mind = start_mind line tries n;
      clock = 0;
      history = [];
      load = None;
      loads = 0;
    }

-- after a load of word w, which found this value
abbrev pub loaded : Walk → ℕ → ℕ → Walk
loaded walk w value =
    record walk { load = Some (record { word = record { 0 = w }; value = value }); loads = walk.loads + 1 }

-- the event of the node on the word that it loaded, with the new payload
abbrev pub event_by : Walk → Load → ℕ → Event
event_by walk load payload =
    event_at walk.node.0 (next_stamp walk.clock load.value) load.word.0 load.value payload

-- after that event, with the mind that it leaves
abbrev pub stepped : Walk → Event → Mind → Walk
stepped walk e mind = record walk { mind = mind; clock = e.stamp; history = e ∷ walk.history; load = None }

-- what is kept of a node
abbrev pub kept_of : Walk → Kept
kept_of walk = record { node = walk.node; mind = walk.mind; history = walk.history }

-- the view of the rails at the start
abbrev pub root_view : Tables → ℕ → View
root_view line tries =
    record { role = Root; line = line; tries = tries; handed = 0; taken = []; walk = start_walk line tries 0 }

abbrev pub node_view : Tables → ℕ → Walk → View
node_view line tries walk =
    record { role = Node; line = line; tries = tries; handed = 0; taken = []; walk = walk }

-- one more node is handed a seat: the view that is left, and the new one
abbrev pub grown : View → View
grown view = record view { handed = view.handed + 1 }

abbrev pub begun : View → View
begun view = node_view view.line view.tries (start_walk view.line view.tries view.handed)

-- a node's seat is taken in: the view after it, and what the seat is left with
abbrev pub taking : View → View → View
taking view node = record view { taken = kept_of node.walk ∷ view.taken }

abbrev pub no_line : Tables
no_line = record { boxes = []; trains = [] }

abbrev pub no_walk : Walk
no_walk = start_walk no_line 0 0

abbrev pub spent : View
spent = record { role = Spent; line = no_line; tries = 0; handed = 0; taken = []; walk = no_walk }
