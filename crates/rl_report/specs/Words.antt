-- The words of what is left of a line, and those of the line of a train.
use Rattle.std.specs.Prelude.{ℕ, ◌≤◌, List, [], ◌∷◌, codes, decimal, Option}
use Rattle.std.specs.Option.{option_map_or}
use Rattle.std.specs.Borrow.{Bor}
use Rattle.rl_base.specs.declared.limits.TheConstants.{MAX_MOVES}
use Rattle.rl_text.specs.Words.{words_of}
use Rattle.rl_model.specs.declared.network.NetworkPlan.{NetworkPlan}
use Rattle.rl_model.specs.declared.report.Outcome.{Outcome}
use Rattle.rl_model.specs.Network.{train_name}
use Rattle.rl_model.specs.ReportText.{fate_word}

-- the words of what is left of a line, if anything is
abbrev pub words_in : Option (Bor (List ℕ)) → List (List ℕ)
words_in rest = option_map_or (λ (text : Bor (List ℕ)). words_of text.now) rest []

-- the words of the line of train t
abbrev pub outcome_words : NetworkPlan → ℕ → Outcome → List (List ℕ)
outcome_words net t o = codes "train" ∷ train_name net t ∷ fate_word o.fate ∷ decimal o.made ∷ decimal o.refused ∷ []

-- a number that a train's line may have
abbrev pub IsCount : ℕ → Type 0
IsCount n = n ≤ MAX_MOVES
