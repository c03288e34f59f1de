use Rattle.std.proofs.Common.{Option, Some, None, IfSome, IfNone, ℕ, List, ◌≡◌, ◌≢◌}
use Rattle.rl_text.specs.Words.{words_of}
use Rattle.rl_model.specs.declared.moves.Move.{Move}
use Rattle.rl_model.specs.declared.network.NetworkPlan.{NetworkPlan}
use Rattle.rl_model.specs.Moves.{IsMoveOf}
use Rattle.rl_model.specs.Network.{IsNetwork}
use Rattle.rl_model.specs.ReportText.{move_words}
use Rattle.rl_report.specs.Grammar.{IsMoveLine}
use Rattle.rl_report.proofs.ReadLines.{move_line_from_words, words_from_move_line}
use Rattle.rl_report.proofs.moves.read_move.Goals as goal

some : (net : NetworkPlan) (text : List ℕ) (o : Option Move) → IfSome o (λ m. IsMoveOf net m × (words_of text ≡ move_words net m))
    → IfSome o (IsMoveLine net text)
some net text None h = tt
some net text (Some m) h = move_line_from_words net text m h.0 h.1

none : (net : NetworkPlan) (text : List ℕ) (o : Option Move) → IsNetwork net
    → IfNone o ((m : Move) → IsMoveOf net m → words_of text ≢ move_words net m) → IfNone o ((m : Move) → IsMoveLine net text m → ⊥)
none net text None network h = λ m is. h m is.of (words_from_move_line net text m network is)
none net text (Some m) network h = tt

pub returns-clause-some : goal.returns-clause-some
returns-clause-some c = some c.args.net.now c.args.line.now c.read_words.result c.read_words.ensures.some

pub returns-clause-none : goal.returns-clause-none
returns-clause-none c = none c.args.net.now c.args.line.now c.read_words.result c.accepted.ensures c.read_words.ensures.none
