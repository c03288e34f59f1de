-- What a text names.
use Rattle.std.specs.Prelude.{ℕ, bytes_eq, find, List, [], ◌∷◌, Option, option_and_then}
use Rattle.toml.specs.Data.{Data, as_str}
use Rattle.rl_base.specs.Kind.{kind_word, side_word}
use Rattle.rl_base.specs.declared.kind.Kind.{Kind}
use Rattle.rl_base.specs.declared.kind.Kind.TheVariants.{Buffer, Joint, Point, Crossing}
use Rattle.rl_base.specs.declared.kind.Side.{Side}
use Rattle.rl_base.specs.declared.kind.Side.TheVariants.{Left, Right}

-- the kind whose word the text is
unfoldable pub kind_named : List ℕ → Option Kind
kind_named text = find (λ kind. bytes_eq (kind_word kind) text) (Buffer ∷ Joint ∷ Point ∷ Crossing ∷ [])

-- the side whose word the text is
unfoldable pub side_named : List ℕ → Option Side
side_named text = find (λ side. bytes_eq (side_word side) text) (Left ∷ Right ∷ [])

-- the side that a value names
abbrev pub side_of : Data → Option Side
side_of d = option_and_then side_named (as_str d)
