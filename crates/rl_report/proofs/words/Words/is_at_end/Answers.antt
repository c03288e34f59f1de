use Rattle.std.proofs.Common.{List, ℕ, ◌≡◌, [], IsTrue, subst}
use Rattle.rl_report.proofs.WordsOf.{words_in-none}
use Rattle.rl_report.proofs.words.Words.is_at_end.Goals as goal

pub returns : goal.returns
returns c =
    subst (λ (left : List (List ℕ)). (IsTrue c.is_none.result → left ≡ []) × (left ≡ [] → IsTrue c.is_none.result)) c.self.view_is
    (words_in-none c.self.inside.rest c.is_none.result c.is_none.ensures)
