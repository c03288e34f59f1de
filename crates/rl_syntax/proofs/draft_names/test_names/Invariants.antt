use Rattle.std.proofs.Common.{◌≡◌, [], ◌∷◌, drop}
use Rattle.rl_syntax.specs.Condition.{first, of_list}
use Rattle.rl_syntax.specs.NameConditions.{no_name, no_names}
use Rattle.rl_syntax.specs.DraftReading.{name_place}
use Rattle.rl_syntax.proofs.draft_names.test_names.Given as goal

-- what is left decides
abbrev pub invariant-loop-j : goal.invariant-loop-j
invariant-loop-j l = first (no_names l.list l.texts) ≡ first (of_list (λ j text. no_name (name_place l.list j) text ∷ []) l.j (drop l.j l.texts))
