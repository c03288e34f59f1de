-- The written forms of a command line, and the order that each gives.
use Rattle.std.specs.Prelude.{◌≡◌, ◌⊎◌, Bool, true, false, not, ◌&&◌, List, [], ◌∷◌, ◌++◌, bytes_eq}
use Rattle.std.specs.List.{flat_map, list_all, list_any}
use Rattle.rl_cli.specs.Words.{Text, fits}
use Rattle.rl_cli.specs.Table.{Form, Given, name_of, item_of, forms}
use Rattle.rl_cli.specs.declared.item.Item.{Item}
use Rattle.rl_cli.specs.declared.flag.Flag.{Flag}
use Rattle.rl_cli.specs.declared.order.Order.{Order}

-- an option as two words, its name and its value
abbrev pub two_words : Text × Text → List Text
two_words p = p.0 ∷ p.1 ∷ []

-- the words in which a form is written: the name, the positionals, and then the options
abbrev pub words_in : Form → Given → List Text
words_in f g = f.name ∷ (g.positionals ++ flat_map two_words g.options)

-- there is one word for each positional, and it is what it must be
abbrev pub fit : List Item → List Text → Bool
fit [] [] = true
fit (item ∷ items) (word ∷ words) = fits item word && fit items words
fit _ _ = false

-- the option has the name of one of these, and its value is what it must be
abbrev pub is_option_of : List Flag → Text × Text → Bool
is_option_of flags p = list_any (λ flag. bytes_eq p.0 (name_of flag) && fits (item_of flag) p.1) flags

-- an option of this name is there
abbrev pub has_option : List (Text × Text) → Text → Bool
has_option options name = list_any (λ p. bytes_eq p.0 name) options

-- no option is there twice
abbrev pub is_each_once : List (Text × Text) → Bool
is_each_once [] = true
is_each_once (p ∷ rest) = not (has_option rest p.0) && is_each_once rest

-- what is given is what the form asks for
pub record IsAskedFor (f : Form) (g : Given) : Type 0 where
  pub positionals : fit f.positionals g.positionals ≡ true
  pub options : list_all (is_option_of f.options) g.options ≡ true
  pub once : is_each_once g.options ≡ true
  pub needed : list_all (λ flag. has_option g.options (name_of flag)) f.needs ≡ true

-- the words are written in this form, and give the order
pub record IsWrittenAs (f : Form) (words : List Text) (order : Order) : Type 0 where
  pub given : Given
  pub asked : IsAskedFor f given
  pub spelled : words ≡ words_in f given
  pub gives : order ≡ f.order given

abbrev pub IsWrittenIn : List Form → List Text → Order → Type 0
IsWrittenIn [] words order = ⊥
IsWrittenIn (f ∷ rest) words order = IsWrittenAs f words order ⊎ IsWrittenIn rest words order

-- the words are written in a form of the table, and give the order
unfoldable pub IsWritten : List Text → Order → Type 0
IsWritten words order = IsWrittenIn forms words order
