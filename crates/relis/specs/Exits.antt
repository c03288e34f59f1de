-- How the program ends: the words that it passes on, and its number.
use Rattle.std.specs.Prelude.{◌≡◌, ℕ, List, drop, map, Option}
use Rattle.std.specs.String.{string_bytes}
use Rattle.std.specs.declared.io.ErrorKind.{ErrorKind}
use Rattle.std.specs.declared.io.ErrorKind.TheVariants as kind
use Rattle.std.specs.declared.string.String.{String}
use Rattle.rl_cli.specs.declared.order.Order.{Order}
use Rattle.relis.specs.Calls.{Outside, IsCall}
use Rattle.relis.specs.declared.status.Status.{Status}
use Rattle.relis.specs.declared.status.Status.TheVariants as status

-- the words of a command line but the first, which is the program's own name
abbrev pub words_after_name : {Z : Type 0} → List (String Z) → List (List ℕ)
words_after_name given = map (λ word. string_bytes word) (drop 1 given)

-- the number with which the program ends. 5 is left for words that the system doesn't give
abbrev pub number_of : Status → ℕ
number_of status.Done = 0
number_of status.Usage = 1
number_of status.ReadFault = 2
number_of (status.Refused number place) = 3
number_of status.WriteFault = 4
number_of status.NoMemory = 6
number_of (status.NotSafe line guard) = 7

-- the same where the system gives an error of this kind in place of the words, as it does where one of them is no text
abbrev pub number_without_words : ErrorKind → ℕ
number_without_words kind.OutOfMemory = 6
number_without_words _ = 5

-- the number is that of the status of a call that was asked for this order, or whose words give none
pub record EndsCall (asked : Option Order) (before now : Outside) (number : ℕ) : Type 0 where
  pub answer : Status
  pub call : IsCall asked before now answer
  pub number_is : number ≡ number_of answer
