-- What a word of a command line may be: the name of a file, or a number in a range.
use Rattle.std.specs.Prelude.{ℕ, nat_le, ◌==◌, Bool, false, not, ◌&&◌, List, [], ◌∷◌, Option, Some, None, is_some, unwrap_or, option_and_then, if◌then◌else◌}
use Rattle.rl_base.specs.Numbers.{IsU32}
use Rattle.rl_text.specs.Number.{number_of}
use Rattle.rl_cli.specs.declared.item.Item.{Item}
use Rattle.rl_cli.specs.declared.item.Item.TheVariants.{File, Number}

abbrev pub Text : Type 0
Text = List ℕ

-- the word isn't empty and doesn't begin with -
abbrev pub is_plain : Text → Bool
is_plain [] = false
is_plain (b ∷ rest) = not (b == 45)

abbrev pub within : ℕ → ℕ → ℕ → Option ℕ
within least most n = if nat_le least n && nat_le n most then Some n else None

-- the number of this range that the word writes in decimal, without sign and without leading zeros
abbrev pub number_in : ℕ → ℕ → Text → Option ℕ
number_in least most word = option_and_then (within least most) (number_of word)

-- the number that the word writes, and 0 where it writes none
abbrev pub number : Text → ℕ
number word = unwrap_or (number_of word) 0

-- the word is what it must be
abbrev pub fits : Item → Text → Bool
fits File word = is_plain word
fits (Number least most) word = is_some (number_in least most word)

-- the number that the word writes has 32 bits
abbrev pub IsSmall : Text → Type 0
IsSmall word = IsU32 (number word)
