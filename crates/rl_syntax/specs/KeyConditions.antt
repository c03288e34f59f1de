-- Where a key of the document is wrong, missing or has a value of the wrong type, in the order of places.
use Rattle.std.specs.Prelude.{ℕ, ◌+◌, codes, false, true, not, is_none, Option, Some, None, option_and_then, List, []}
use Rattle.std.specs.Prelude.{◌∷◌, ◌++◌}
use Rattle.rl_base.specs.declared.place.Place.{Place}
use Rattle.rl_base.specs.declared.place.Place.TheVariants.{Top, Format, Segments, Boxes, BoxItem, BoxName, BoxKind}
use Rattle.rl_base.specs.declared.place.Place.TheVariants.{BoxArms, BoxSide, Trains, TrainItem, TrainName, TrainRoute}
use Rattle.rl_syntax.specs.declared.names.NameList.{NameList}
use Rattle.rl_syntax.specs.declared.names.NameList.TheVariants as lists
use Rattle.rl_syntax.specs.declared.keys.Keys.TheVariants as keys
use Rattle.rl_syntax.specs.Condition.{Condition}
use Rattle.rl_syntax.specs.DraftReading.{name_place}
use Rattle.rl_syntax.specs.Table.{has_other_key, has_format_one, table_with, text_at, array_at}
use Rattle.rl_syntax.specs.Words.{kind_named, side_of}
use Rattle.toml.specs.Data.{Data, Items, no_items, item, Members, get_member, as_str, as_array}

-- what must be there isn't
abbrev pub missing : {A : Type 0} → Place → Option A → Condition
missing p o = (is_none o, p)

-- what may be left out is there, and isn't of the kind that it should be
abbrev pub misfit : {A : Type 0} → Place → (Data → Option A) → Option Data → Condition
misfit p f None = (false, p)
misfit p f (Some d) = (is_none (f d), p)

-- the items at a key, none where no array is
abbrev pub items_or_none : Option Items → Items
items_or_none None = no_items
items_or_none (Some ds) = ds

abbrev pub items_at : List ℕ → Members → Items
items_at key m = items_or_none (array_at key m)

-- the conditions of the items of an array, numbered from i
abbrev pub of_items : (ℕ → Data → List Condition) → ℕ → Items → List Condition
of_items f i no_items = []
of_items f i (item d ds) = f i d ++ of_items f (i + 1) ds

-- an item of a list of names is no text
unfoldable pub no_texts : NameList → Items → List Condition
no_texts list = of_items (λ j d. missing (name_place list j) (as_str d) ∷ []) 0

-- an item that should be a table with known keys, and what is wrong in the table
abbrev pub in_table : Place → (Members → List Condition) → Option Members → List Condition
in_table p f None = (true, p) ∷ []
in_table p f (Some m) = f m

-- what is wrong in a box
unfoldable pub in_box : ℕ → Members → List Condition
in_box i m =
    missing (BoxName i) (text_at (codes "name") m)
    ∷ missing (BoxKind i) (option_and_then kind_named (text_at (codes "kind") m))
    ∷ missing (BoxArms i) (array_at (codes "arms") m)
    ∷ no_texts (lists.Arms i) (items_at (codes "arms") m)
    ++ misfit (BoxSide i) side_of (get_member (codes "at") m)
    ∷ []

-- what is wrong in a train
unfoldable pub in_train : ℕ → Members → List Condition
in_train i m =
    missing (TrainName i) (text_at (codes "name") m)
    ∷ missing (TrainRoute i) (array_at (codes "route") m)
    ∷ no_texts (lists.Route i) (items_at (codes "route") m)

-- what is wrong in the boxes, and in the trains
unfoldable pub in_boxes : Items → List Condition
in_boxes = of_items (λ i d. in_table (BoxItem i) (in_box i) (table_with keys.Box d)) 0

unfoldable pub in_trains : Items → List Condition
in_trains = of_items (λ i d. in_table (TrainItem i) (in_train i) (table_with keys.Train d)) 0

-- what is wrong in the document
unfoldable pub key_conditions : Members → List Condition
key_conditions m =
    (has_other_key keys.Network m, Top)
    ∷ (not (has_format_one m), Format)
    ∷ misfit Segments as_array (get_member (codes "segments") m)
    ∷ no_texts lists.Segments (items_at (codes "segments") m)
    ++ misfit Boxes as_array (get_member (codes "box") m)
    ∷ in_boxes (items_at (codes "box") m)
    ++ misfit Trains as_array (get_member (codes "train") m)
    ∷ in_trains (items_at (codes "train") m)
