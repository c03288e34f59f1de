use Rattle.std.proofs.Common.{◌≡◌, None, refl, arith}
use Rattle.std.proofs.lemmas.Bool.Decides.{nat_tests}
use Rattle.rl_audit.proofs.Judging.{train_on, train_right, train_wrong, not_none}
use Rattle.rl_audit.proofs.judge.Judge.take_outcome.Goals as goal

pub returns-then-is_some-clause-judged : goal.returns-then-is_some-clause-judged
returns-then-is_some-clause-judged c = λ report tried place judged.
    let failed = c.if-is_some.true in
    let test = c.is_some.ensures in
    train_on c.args.net.now report c.args.o c.args.self.now (not_none c.args.self.now.failure c.is_some.result test failed) judged

pub returns-in-Some-clause-judged : goal.returns-in-Some-clause-judged
returns-in-Some-clause-judged c = λ report tried place judged.
    let failed = c.if-is_some.false in
    let test = c.is_some.ensures in
    let fine : c.args.self.now.failure ≡ None = grind (arith, nat_tests) in
    train_wrong c.args.net.now report c.args.tries c.args.t.0 c.args.o c.args.self.now _ _ c.in-Some.guard tried place c.requires.train fine c.in-Some.ensures
    refl refl judged

pub returns-in_default-clause-judged : goal.returns-in_default-clause-judged
returns-in_default-clause-judged c = λ report tried place judged.
    let failed = c.if-is_some.false in
    let test = c.is_some.ensures in
    let fine : c.args.self.now.failure ≡ None = grind (arith, nat_tests) in
    train_right c.args.net.now report c.args.tries c.args.t.0 c.args.o c.args.self.now tried place c.requires.train fine c.in_default.ensures judged
