-- The two lines that `make` prints.
use Rattle.std.specs.Prelude.{ℕ, Bool, true, false, List, ◌++◌, length, count_by, codes, decimal}
use Rattle.rl_model.specs.declared.moves.Move.{Move}
use Rattle.rl_model.specs.declared.moves.Move.TheVariants.{Refuse, Bar}
use Rattle.rl_model.specs.declared.network.NetworkPlan.{NetworkPlan}
use Rattle.rl_model.specs.declared.report.Fate.TheVariants.{Arrived, Spent, Underway}
use Rattle.rl_model.specs.declared.report.Outcome.{Outcome}
use Rattle.rl_model.specs.declared.report.Report.{Report}
use Rattle.relis.specs.declared.made.TheConstants.{MADE_ROUNDS}

-- the move is one that a train doesn't get
abbrev pub is_refused : Move → Bool
is_refused (Refuse t s b u) = true
is_refused (Bar t b u) = true
is_refused _ = false

abbrev pub has_arrived : Outcome → Bool
has_arrived o = elim o.fate [ Arrived ↦ true | Spent ↦ false | Underway ↦ false ]

abbrev pub is_spent : Outcome → Bool
is_spent o = elim o.fate [ Arrived ↦ false | Spent ↦ true | Underway ↦ false ]

abbrev pub is_underway : Outcome → Bool
is_underway o = elim o.fate [ Arrived ↦ false | Spent ↦ false | Underway ↦ true ]

-- how large the network is
abbrev pub size_line : ℕ → NetworkPlan → List ℕ
size_line n net =
    codes "make " ++ decimal n
    ++ codes " segments " ++ decimal (length net.segments)
    ++ codes " boxes " ++ decimal (length net.boxes)
    ++ codes " trains " ++ decimal (length net.trains)
    ++ codes "\n"

-- how many moves the report has, how many of them are refusals, and how many trains have each fate
abbrev pub counts_line : Report → List ℕ
counts_line report =
    codes "rounds " ++ decimal MADE_ROUNDS
    ++ codes " moves " ++ decimal (length report.moves)
    ++ codes " refused " ++ decimal (count_by is_refused report.moves)
    ++ codes " arrived " ++ decimal (count_by has_arrived report.outcomes)
    ++ codes " spent " ++ decimal (count_by is_spent report.outcomes)
    ++ codes " underway " ++ decimal (count_by is_underway report.outcomes)
    ++ codes "\n"

abbrev pub make_text : ℕ → NetworkPlan → Report → List ℕ
make_text n net report = size_line n net ++ counts_line report
