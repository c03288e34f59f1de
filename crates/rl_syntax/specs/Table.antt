-- What is looked up in a table of the document.
use Rattle.std.specs.Prelude.{ℕ, ℤ, pos, codes, Bool, false, not, ◌||◌, Option, Some, None, option_and_then, Ok, List}
use Rattle.std.specs.Prelude.{[], ◌∷◌, if◌then◌else◌, bytes_eq}
use Rattle.std.specs.List.{list_any}
use Rattle.std.specs.Ordering.{int_eq}
use Rattle.toml.specs.Data.{Data, Items, no_items, Members, no_members, member, get_member, as_str, as_integer}
use Rattle.toml.specs.Data.{as_array, as_table}
use Rattle.rl_base.specs.declared.place.Place.{Place}
use Rattle.rl_syntax.specs.Reading.{Read, needed}
use Rattle.rl_syntax.specs.declared.keys.Keys.{Keys}
use Rattle.rl_syntax.specs.declared.keys.Keys.TheVariants.{Network, Box, Train}

-- the keys that a table may have
abbrev pub known : Keys → List (List ℕ)
known Network = codes "format" ∷ codes "segments" ∷ codes "box" ∷ codes "train" ∷ []
known Box = codes "name" ∷ codes "kind" ∷ codes "arms" ∷ codes "at" ∷ []
known Train = codes "name" ∷ codes "route" ∷ []

-- the key is one of these
unfoldable pub is_known : Keys → List ℕ → Bool
is_known keys key = list_any (bytes_eq key) (known keys)

-- the table has a key that is none of these
abbrev pub has_other_key : Keys → Members → Bool
has_other_key keys no_members = false
has_other_key keys (member key d ms) = not (is_known keys key) || has_other_key keys ms

-- the table, where it has no such key
abbrev pub known_table : Keys → Members → Option Members
known_table keys m = if has_other_key keys m then None else Some m

-- the table that a value is, where it is one and has no such key
abbrev pub table_with : Keys → Data → Option Members
table_with keys d = option_and_then (known_table keys) (as_table d)

-- the text at a key, and the array at a key, where there is one
abbrev pub text_at : List ℕ → Members → Option (List ℕ)
text_at key m = option_and_then as_str (get_member key m)

abbrev pub array_at : List ℕ → Members → Option Items
array_at key m = option_and_then as_array (get_member key m)

-- the integer at the key of the format is 1
abbrev pub is_one : Option ℤ → Bool
is_one None = false
is_one (Some z) = int_eq z (pos 1)

abbrev pub has_format_one : Members → Bool
has_format_one m = is_one (option_and_then as_integer (get_member (codes "format") m))

-- an array that may be left out: no items then
abbrev pub optional_array : Place → Option Data → Read Items
optional_array p None = Ok no_items
optional_array p (Some d) = needed p (as_array d)
