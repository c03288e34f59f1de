-- Both clauses follow from what the first line is.
use Rattle.std.proofs.Common.{◌<◌, length, sym, ap, ◌∙◌, arith}
use Rattle.std.proofs.lemmas.Bool.Decides.{nat_tests}
use Rattle.rl_text.specs.Lines.{Reading}
use Rattle.rl_text.proofs.LinesLemmas.{lines_of-first}
use Rattle.rl_text.proofs.tokens.Tokens.line.Goals as goal

pub returns-clause-first : goal.returns-clause-first
returns-clause-first c =
    let some : 0 < length c.self.inside.rest.now = grind (arith, nat_tests) in
    rw c.after-self-inside.ensures
    (ap (λ (r : Reading). r.left) (sym c.self.view_is) ∙ lines_of-first c.self.inside.rest.now c.line_end-end.result some c.line_end-end.ensures)

pub returns-clause-end : goal.returns-clause-end
returns-clause-end c = let first = returns-clause-first c in (λ e. cc, λ e. cc)
