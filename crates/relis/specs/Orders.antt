-- The orders that a call carries out on one thread, and the files that an order names.
use Rattle.std.specs.Prelude.{ℕ, List, [], ◌∷◌, Option, Some, None, option_and_then}
use Rattle.rl_cli.specs.Orders.{order_of}
use Rattle.rl_cli.specs.declared.order.Order.{Order}
use Rattle.rl_cli.specs.declared.order.Order.TheVariants.{Check, Tables, Rounds, Drive, Run, Audit, Make}

-- the order, if it is carried out on one thread, as each but `run` is
abbrev pub plain : Order → Option Order
plain (Run net tries workers round) = None
plain order = Some order

-- the order that the words give, if it is carried out on one thread
abbrev pub plain_order_of : List (List ℕ) → Option Order
plain_order_of words = option_and_then plain (order_of words)

-- the files that the order names, in the order in which they are read
abbrev pub files_of : Order → List (List ℕ)
files_of (Check net) = net ∷ []
files_of (Tables net) = net ∷ []
files_of (Rounds net rounds tries) = net ∷ []
files_of (Drive net schedule tries) = net ∷ schedule ∷ []
files_of (Run net tries workers round) = net ∷ []
files_of (Audit net report) = net ∷ report ∷ []
files_of (Make n) = []
