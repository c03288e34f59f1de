-- The table that is written for a draft.
use Rattle.std.specs.Prelude.{ℕ, pos, codes, List, [], ◌∷◌, Option, Some, None}
use Rattle.std.specs.Cmp.Lexicographic.{slice_cmp}
use Rattle.std.specs.Ordering.{nat_cmp, match_ordering}
use Rattle.rl_base.specs.Kind.{kind_word, side_word}
use Rattle.rl_base.specs.declared.draft.Draft.{Draft}
use Rattle.rl_base.specs.declared.draft.DraftBox.{DraftBox}
use Rattle.rl_base.specs.declared.draft.DraftTrain.{DraftTrain}
use Rattle.rl_base.specs.declared.kind.Side.{Side}
use Rattle.rl_syntax.specs.Spelling.{texts}
use Rattle.toml.specs.Data.{Data, string, integer, array, table, Items, no_items, item, Members, no_members, member}

-- the table with a value at a key, its keys in order
abbrev pub with_key : List ℕ → Data → Members → Members
with_key key d no_members = member key d no_members
with_key key d (member k e ms) =
    match_ordering (slice_cmp nat_cmp key k) (member key d (member k e ms)) (member k d ms)
    (member k e (with_key key d ms))

-- the table with the side, where there is one
abbrev pub with_side : Option Side → Members → Members
with_side None m = m
with_side (Some side) m = with_key (codes "at") (string (side_word side)) m

-- the table of a box
abbrev pub box_table : DraftBox → Members
box_table b =
    with_side b.at
    (with_key (codes "arms") (array (texts b.arms))
    (with_key (codes "kind") (string (kind_word b.kind))
    (with_key (codes "name") (string b.name) no_members)))

-- the table of a train
abbrev pub train_table : DraftTrain → Members
train_table t = with_key (codes "route") (array (texts t.route)) (with_key (codes "name") (string t.name) no_members)

-- one table for each of the list
abbrev pub tables : {A : Type 0} → (A → Members) → List A → Items
tables f [] = no_items
tables f (x ∷ xs) = item (table (f x)) (tables f xs)

-- the table of a draft: each list is there, also an empty one
abbrev pub draft_table : Draft → Members
draft_table d =
    with_key (codes "train") (array (tables train_table d.trains))
    (with_key (codes "box") (array (tables box_table d.boxes))
    (with_key (codes "segments") (array (texts d.segments))
    (with_key (codes "format") (integer (pos 1)) no_members)))
