-- A move's line begins with the name of the move.
use Rattle.std.proofs.Common.{◌≡◌, ◌≢◌, ℕ, List, ◌∷◌, ◌∙◌, refl}
use Rattle.rl_model.specs.declared.moves.Move.{Move}
use Rattle.rl_model.specs.declared.moves.Move.TheVariants.{Reserve, Release, Lock, Unlock, Throw, Settle, Enter, Leave, Refuse, Bar}
use Rattle.rl_model.specs.declared.network.NetworkPlan.{NetworkPlan}
use Rattle.rl_model.specs.ReportText.{move_words}
use Rattle.rl_report.specs.declared.moves.MoveName.{MoveName}
use Rattle.rl_report.specs.declared.moves.MoveName.TheVariants as name
use Rattle.rl_report.specs.MoveNames.{name_word}

-- a move's line begins with one of the names
pub record IsNamed (net : NetworkPlan) (m : Move) : Type 0 where
  pub name : MoveName
  pub others : List (List ℕ)
  pub words : move_words net m ≡ name_word name ∷ others

pub named : (net : NetworkPlan) (m : Move) → IsNamed net m
named net (Reserve t s b) = record { name = name.Reserve; others = _; words = refl }
named net (Release t s b) = record { name = name.Release; others = _; words = refl }
named net (Lock t b s s2) = record { name = name.Lock; others = _; words = refl }
named net (Unlock t b) = record { name = name.Unlock; others = _; words = refl }
named net (Throw b) = record { name = name.Throw; others = _; words = refl }
named net (Settle b side) = record { name = name.Settle; others = _; words = refl }
named net (Enter t b s s2) = record { name = name.Enter; others = _; words = refl }
named net (Leave t s) = record { name = name.Leave; others = _; words = refl }
named net (Refuse t s b u) = record { name = name.Refuse; others = _; words = refl }
named net (Bar t b u) = record { name = name.Bar; others = _; words = refl }

-- words that don't begin with one of the names are no move's
pub none_unnamed : (net : NetworkPlan) (words : List (List ℕ)) → ((n : MoveName) (rest : List (List ℕ)) → words ≢ name_word n ∷ rest) → (m : Move)
    → words ≢ move_words net m
none_unnamed net words none m e =
    let is = named net m in
    none is.name is.others (e ∙ is.words)
