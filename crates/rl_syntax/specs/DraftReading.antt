-- How a draft is read from the table of a document.
use Rattle.std.specs.Prelude.{ℕ, codes, Option, option_and_then, Ok, Err, List, [], if◌then◌else◌}
use Rattle.rl_base.specs.declared.draft.Draft.{Draft}
use Rattle.rl_base.specs.declared.draft.DraftBox.{DraftBox}
use Rattle.rl_base.specs.declared.draft.DraftTrain.{DraftTrain}
use Rattle.rl_base.specs.declared.place.Place.{Place}
use Rattle.rl_base.specs.declared.place.Place.TheVariants.{Top, Format, Segments, Segment, Boxes, BoxItem, BoxName}
use Rattle.rl_base.specs.declared.place.Place.TheVariants.{BoxKind, BoxArms, BoxArm, BoxSide, Trains, TrainItem}
use Rattle.rl_base.specs.declared.place.Place.TheVariants.{TrainName, TrainRoute, RouteItem}
use Rattle.rl_syntax.specs.declared.names.NameList.{NameList}
use Rattle.rl_syntax.specs.declared.names.NameList.TheVariants as lists
use Rattle.rl_syntax.specs.declared.keys.Keys.TheVariants as keys
use Rattle.rl_syntax.specs.Reading.{Read, ◌>>=◌, needed, optional, each}
use Rattle.rl_syntax.specs.Table.{has_other_key, has_format_one, table_with, text_at, array_at, optional_array}
use Rattle.rl_syntax.specs.Words.{kind_named, side_of}
use Rattle.toml.specs.Data.{Data, Items, Members, get_member, as_str}

-- the place of a list of names, and of a name in it
abbrev pub list_place : NameList → Place
list_place lists.Segments = Segments
list_place (lists.Arms i) = BoxArms i
list_place (lists.Route i) = TrainRoute i

abbrev pub name_place : NameList → ℕ → Place
name_place lists.Segments j = Segment j
name_place (lists.Arms i) j = BoxArm i j
name_place (lists.Route i) j = RouteItem i j

-- one name of a list
abbrev pub name_in : NameList → ℕ → Data → Read (List ℕ)
name_in list j d = needed (name_place list j) (as_str d)

-- the names of an array
unfoldable pub names_of : NameList → Items → Read (List (List ℕ))
names_of list = each (name_in list) []

-- the names of an array that must be there
abbrev pub needed_names : NameList → Option Items → Read (List (List ℕ))
needed_names list items = needed (list_place list) items >>= names_of list

-- a box
unfoldable pub box_of : ℕ → Members → Read DraftBox
box_of i m = do
  name ← needed (BoxName i) (text_at (codes "name") m)
  kind ← needed (BoxKind i) (option_and_then kind_named (text_at (codes "kind") m))
  arms ← needed_names (lists.Arms i) (array_at (codes "arms") m)
  side ← optional (BoxSide i) side_of (get_member (codes "at") m)
  Ok (record { name = name; kind = kind; arms = arms; at = side })

-- a train
unfoldable pub train_of : ℕ → Members → Read DraftTrain
train_of i m = do
  name ← needed (TrainName i) (text_at (codes "name") m)
  route ← needed_names (lists.Route i) (array_at (codes "route") m)
  Ok (record { name = name; route = route })

-- a box and a train in their arrays
abbrev pub box_in : ℕ → Data → Read DraftBox
box_in i d = needed (BoxItem i) (table_with keys.Box d) >>= box_of i

abbrev pub train_in : ℕ → Data → Read DraftTrain
train_in i d = needed (TrainItem i) (table_with keys.Train d) >>= train_of i

-- the boxes and the trains of an array
unfoldable pub boxes_of : Items → Read (List DraftBox)
boxes_of = each box_in []

unfoldable pub trains_of : Items → Read (List DraftTrain)
trains_of = each train_in []

-- the three lists of a draft
unfoldable pub lists_of : Members → Read Draft
lists_of m = do
  segments ← optional_array Segments (get_member (codes "segments") m) >>= names_of lists.Segments
  boxes ← optional_array Boxes (get_member (codes "box") m) >>= boxes_of
  trains ← optional_array Trains (get_member (codes "train") m) >>= trains_of
  Ok (record { segments = segments; boxes = boxes; trains = trains })

-- the draft of a document
unfoldable pub draft_of : Members → Read Draft
draft_of m =
    if has_other_key keys.Network m then Err Top
    else if has_format_one m then lists_of m
    else Err Format
