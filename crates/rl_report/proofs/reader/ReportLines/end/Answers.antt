use Rattle.std.proofs.Common.{◌≡◌, ◌+◌, List, IsTrue, Some, codes, length, drop, ap, sym, ◌∙◌, arith}
use Rattle.std.proofs.lemmas.Bool.Decides.{nat_tests}
use Rattle.rl_text.specs.Lines.{Line}
use Rattle.rl_report.specs.Reading.{next_text}
use Rattle.rl_report.proofs.Faults.{no_end_fault, late_fault, whole_text}
use Rattle.rl_report.proofs.Steps.{end_is_left, goes_on, after_pass}
use Rattle.rl_report.proofs.reader.ReportLines.end.Goals as goal

pub returns-then-not-is_last_line-clause-err : goal.returns-then-not-is_last_line-clause-err
returns-then-not-is_last_line-clause-err c = λ text report read all none.
    no_end_fault c.args.net.now text report c.args.self.now _ c.accepted.ensures read c.next_number.ensures all none
    (λ next. let is : IsTrue c.is_last_line.result = c.is_last_line.ensures.1 (c.peek.ensures ∙ next) in let not_last = c.if-not-is_last_line.true in
    grind (arith, nat_tests))

pub returns-then-is_at_end-clause-ok : goal.returns-then-is_at_end-clause-ok
returns-then-is_at_end-clause-ok c = λ text report read all.
    let last : IsTrue c.is_last_line.result = grind (arith, nat_tests, c.if-not-is_last_line.false) in
    let next : next_text c.args.self.now.left ≡ Some (codes "end") = sym c.peek.ensures ∙ c.is_last_line.ensures.0 last in
    whole_text c.args.net.now text report c.args.self.now c.accepted.ensures read all
    (end_is_left c.args.self.now.left c.pass.new.self.left next c.pass.ensures.left (c.is_at_end.ensures.0 c.if-is_at_end.true))

pub returns-else-is_at_end-clause-err : goal.returns-else-is_at_end-clause-err
returns-else-is_at_end-clause-err c = λ text report read all none.
    let last : IsTrue c.is_last_line.result = grind (arith, nat_tests, c.if-not-is_last_line.false) in
    let next : next_text c.args.self.now.left ≡ Some (codes "end") = sym c.peek.ensures ∙ c.is_last_line.ensures.0 last in
    let more = goes_on c.args.self.now.left c.pass.new.self.left next c.pass.ensures.left
    (λ e. let is : IsTrue c.is_at_end.result = c.is_at_end.ensures.1 e in let not_end = c.if-is_at_end.false in grind (arith, nat_tests)) in
    let lines = more.lines in
    let passed = c.pass.ensures.left ∙ ap (λ (ls : List Line). drop 1 ls) lines in
    let long = ap (λ (ls : List Line). length ls) lines in
    let short = ap (λ (ls : List Line). length ls) passed in
    let one : length c.args.self.now.left ≡ length c.pass.new.self.left + 1 = omega (arith, long, short) in
    late_fault c.args.net.now text report c.args.self.now _ more.line more.rest c.accepted.ensures read
    (c.next_number-else-is_at_end.ensures ∙ after_pass _ _ _ _ c.pass.ensures.count one) all none lines
