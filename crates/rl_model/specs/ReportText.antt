-- The text of a report, line by line. Words are parted by one space, and each line ends with LF.
use Rattle.std.specs.Prelude.{ℕ, List, [], ◌∷◌, ◌++◌, suc, codes, decimal, flat_map}
use Rattle.std.specs.List.{join_with_byte}
use Rattle.rl_base.specs.Kind.{side_word}
use Rattle.rl_model.specs.declared.moves.Move.{Move}
use Rattle.rl_model.specs.declared.moves.Move.TheVariants.{Reserve, Release, Lock, Unlock, Throw, Settle, Enter, Leave, Refuse, Bar}
use Rattle.rl_model.specs.declared.network.NetworkPlan.{NetworkPlan}
use Rattle.rl_model.specs.declared.report.Fate.{Fate}
use Rattle.rl_model.specs.declared.report.Fate.TheVariants.{Arrived, Spent, Underway}
use Rattle.rl_model.specs.declared.report.Outcome.{Outcome}
use Rattle.rl_model.specs.declared.report.Report.{Report}
use Rattle.rl_model.specs.Network.{segment_name, box_name, train_name}

-- the words, parted by one space, and the end of the line
abbrev pub line_of : List (List ℕ) → List ℕ
line_of words = join_with_byte 32 words ++ 10 ∷ []

abbrev pub fate_word : Fate → List ℕ
fate_word Arrived = codes "arrived"
fate_word Spent = codes "spent"
fate_word Underway = codes "underway"

abbrev pub move_words : NetworkPlan → Move → List (List ℕ)
move_words net (Reserve t s b) = codes "reserve" ∷ train_name net t.0 ∷ segment_name net s.0 ∷ box_name net b.0 ∷ []
move_words net (Release t s b) = codes "release" ∷ train_name net t.0 ∷ segment_name net s.0 ∷ box_name net b.0 ∷ []
move_words net (Lock t b s s2) =
    codes "lock" ∷ train_name net t.0 ∷ box_name net b.0 ∷ segment_name net s.0 ∷ segment_name net s2.0 ∷ []
move_words net (Unlock t b) = codes "unlock" ∷ train_name net t.0 ∷ box_name net b.0 ∷ []
move_words net (Throw b) = codes "throw" ∷ box_name net b.0 ∷ []
move_words net (Settle b side) = codes "settle" ∷ box_name net b.0 ∷ side_word side ∷ []
move_words net (Enter t b s s2) =
    codes "enter" ∷ train_name net t.0 ∷ box_name net b.0 ∷ segment_name net s.0 ∷ segment_name net s2.0 ∷ []
move_words net (Leave t s) = codes "leave" ∷ train_name net t.0 ∷ segment_name net s.0 ∷ []
move_words net (Refuse t s b u) =
    codes "refuse" ∷ train_name net t.0 ∷ segment_name net s.0 ∷ box_name net b.0 ∷ train_name net u.0 ∷ []
move_words net (Bar t b u) = codes "bar" ∷ train_name net t.0 ∷ box_name net b.0 ∷ train_name net u.0 ∷ []

abbrev pub move_line : NetworkPlan → Move → List ℕ
move_line net m = line_of (move_words net m)

-- the line of train t
abbrev pub outcome_line : NetworkPlan → ℕ → Outcome → List ℕ
outcome_line net t o = line_of
    (codes "train" ∷ train_name net t ∷ fate_word o.fate ∷ decimal o.made ∷ decimal o.refused ∷ [])

-- the lines of the trains from number t on
abbrev pub outcome_lines : NetworkPlan → ℕ → List Outcome → List ℕ
outcome_lines net t [] = []
outcome_lines net t (o ∷ os) = outcome_line net t o ++ outcome_lines net (suc t) os

abbrev pub report_text : NetworkPlan → Report → List ℕ
report_text net report =
    codes "relis report 1\n" ++ line_of (codes "tries" ∷ decimal report.tries ∷ [])
    ++ flat_map (move_line net) report.moves
    ++ outcome_lines net 0 report.outcomes
    ++ codes "end\n"
