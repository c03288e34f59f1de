use Rattle.std.proofs.Common.{◌≢◌, ℕ, List, ◌∷◌, Option, Some, None, IfNone}
use Rattle.rl_text.specs.Words.{words_of}
use Rattle.rl_model.specs.declared.moves.Move.{Move}
use Rattle.rl_model.specs.declared.network.NetworkPlan.{NetworkPlan}
use Rattle.rl_model.specs.Moves.{IsMoveOf}
use Rattle.rl_model.specs.ReportText.{move_words}
use Rattle.rl_report.specs.declared.moves.MoveName.{MoveName}
use Rattle.rl_report.specs.MoveNames.{name_word}
use Rattle.rl_report.proofs.NamedMoves.{none_unnamed}
use Rattle.rl_report.proofs.moves.read_words.Goals as goal

-- where the first word is no name of a move, the words aren't those of a move
no_name : (net : NetworkPlan) (words : List (List ℕ)) (o : Option Move) → ((n : MoveName) (rest : List (List ℕ)) → words ≢ name_word n ∷ rest)
    → IfNone o ((m : Move) → IsMoveOf net m → words ≢ move_words net m)
no_name net words None none = λ m of. none_unnamed net words none m
no_name net words (Some m) none = tt

pub returns-in_err-name-clause-none : goal.returns-in_err-name-clause-none
returns-in_err-name-clause-none c = no_name c.args.net.now (words_of c.args.line.now) _ c.in_err-name.ensures.none
