-- The order of a command line as a function of its words, by tests of them, which the code's functions make.
use Rattle.std.specs.Prelude.{◌≡◌, Bool, true, false, not, ◌&&◌, List, [], ◌∷◌, length, take, drop, nat_le, Option, Some, None, IsSome, Result, Ok, Err, bytes_eq, codes, if◌then◌else◌}
use Rattle.std.specs.List.{list_all}
use Rattle.rl_cli.specs.Words.{Text}
use Rattle.rl_cli.specs.Table.{Form, Given, name_of, forms, word, check, tables, rounds, drive, run, audit, make}
use Rattle.rl_cli.specs.Written.{fit, is_option_of, has_option}
use Rattle.rl_cli.specs.declared.item.Item.{Item}
use Rattle.rl_cli.specs.declared.flag.Flag.{Flag}
use Rattle.rl_cli.specs.declared.order.Order.{Order}
use Rattle.rl_cli.specs.declared.fault.CliFault.{CliFault}
use Rattle.rl_cli.specs.declared.fault.CliFault.TheVariants.{Usage, NoMemory}

-- the words cut in two and two
abbrev pub pairs : List Text → List (Text × Text)
pairs [] = []
pairs (name ∷ []) = []
pairs (name ∷ value ∷ rest) = (name, value) ∷ pairs rest

-- the words are options of these, each at most once
abbrev pub are_options : List Flag → List Text → Bool
are_options flags [] = true
are_options flags (name ∷ []) = false
are_options flags (name ∷ value ∷ rest) =
    is_option_of flags (name, value) && (not (has_option (pairs rest) name) && are_options flags rest)

-- the words are the positionals and then options, of which those that are needed are there
unfoldable pub is_after_name : List Item → List Flag → List Flag → List Text → Bool
is_after_name positionals options needs words =
    let n = length positionals in
    nat_le n (length words) && (fit positionals (take n words)
    && (are_options options (drop n words)
    && list_all (λ flag. has_option (pairs (drop n words)) (name_of flag)) needs))

-- the words after the name, as what they give in the form
abbrev pub given_in : Form → List Text → Given
given_in f words = record {
  positionals = take (length f.positionals) words;
  options = pairs (drop (length f.positionals) words);
}

-- the order that the words after the form's name give
abbrev pub order_after : Form → List Text → Option Order
order_after f words =
    if is_after_name f.positionals f.options f.needs words then Some (f.order (given_in f words)) else None

-- the words after the first are as the form has them
abbrev pub is_in : Form → List Text → Bool
is_in f words = is_after_name f.positionals f.options f.needs (drop 1 words)

-- the name of the network text where it is all that follows a command's name
abbrev pub net_after : List Text → Option Text
net_after words = if is_in check ([] ∷ words) then Some (word (given_in check words) 0) else None

abbrev pub order_in : Form → List Text → Option Order
order_in f [] = None
order_in f (name ∷ words) = if bytes_eq name f.name then order_after f words else None

abbrev pub or_else : Option Order → Option Order → Option Order
or_else (Some o) next = Some o
or_else None next = next

-- the order that the words after a name give
abbrev pub order_named : Text → List Text → Option Order
order_named name words =
    if bytes_eq name (codes "check") then order_after check words
    else (if bytes_eq name (codes "tables") then order_after tables words
    else (if bytes_eq name (codes "drive") then or_else (order_after rounds words) (order_after drive words)
    else (if bytes_eq name (codes "run") then order_after run words
    else (if bytes_eq name (codes "audit") then order_after audit words
    else (if bytes_eq name (codes "make") then order_after make words else None)))))

abbrev pub order_among : List Form → List Text → Option Order
order_among [] words = None
order_among (f ∷ rest) words = or_else (order_in f words) (order_among rest words)

-- the order that the words give, if they give one
unfoldable pub order_of : List Text → Option Order
order_of words = order_among forms words

-- the result is what is wanted, and Usage where nothing is; memory may run out where something is
abbrev pub Answers : {T : Type 0} → Option T → Result T CliFault → Type 0
Answers wanted (Ok found) = wanted ≡ Some found
Answers wanted (Err Usage) = wanted ≡ None
Answers wanted (Err NoMemory) = IsSome wanted
