use Rattle.std.proofs.Common.{◌≡◌, List, IsTrue, Some, codes, ap, sym, ◌∙◌, drop, arith}
use Rattle.std.proofs.lemmas.Bool.Decides.{nat_tests}
use Rattle.rl_text.specs.Lines.{Line, lines_of}
use Rattle.rl_report.specs.Reading.{next_text}
use Rattle.rl_report.proofs.Faults.{no_head_fault, no_tries_fault}
use Rattle.rl_report.proofs.Steps.{first_is}
use Rattle.rl_report.proofs.reader.ReportLines.head.Goals as goal

pub returns-then-not-first-clause-err : goal.returns-then-not-first-clause-err
returns-then-not-first-clause-err c = λ net text network left.
    no_head_fault net text network
    (λ next. let is : IsTrue c.is_first_line-first.result = c.is_first_line-first.ensures.1 (c.peek.ensures ∙ ap next_text left ∙ next) in
    let not_first = c.if-not-first.true in grind (arith, nat_tests))

pub returns-in-None-clause-err : goal.returns-in-None-clause-err
returns-in-None-clause-err c = λ net text network left.
    let first : IsTrue c.is_first_line-first.result = grind (arith, nat_tests, c.if-not-first.false) in
    let next : next_text (lines_of text) ≡ Some (codes "relis report 1") =
    sym (ap next_text left) ∙ sym c.peek.ensures ∙ c.is_first_line-first.ensures.0 first in
    no_tries_fault net text network (first_is (lines_of text) (codes "relis report 1") next)
    (λ n some few e. c.in-None.ensures.none n some few (c.peek-2.ensures ∙ ap next_text (c.pass.ensures.left ∙ ap (λ (ls : List Line). drop 1 ls) left) ∙ e))
