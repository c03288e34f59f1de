use Rattle.std.proofs.Common.{◌≡◌, arith}
use Rattle.std.proofs.lemmas.Bool.Decides.{nat_tests}
use Rattle.rl_report.proofs.ReadLines.{one_train}
use Rattle.rl_report.proofs.reader.outcome_of.Goals as goal

pub returns-in_default-clause-none : goal.returns-in_default-clause-none
returns-in_default-clause-none c = λ o is.
    let same : c.in-Some.u.0 ≡ c.args.t.0 =
    one_train c.args.net.now c.args.line.now c.in-Some.u.0 c.args.t.0 c.in-Some.o o c.accepted.ensures c.in-Some.ensures.some is in
    let apart = c.if-eq.false in
    let test = c.eq.ensures in
    grind (arith, nat_tests)
