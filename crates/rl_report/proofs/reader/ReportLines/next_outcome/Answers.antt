use Rattle.std.proofs.Common.{◌≡◌, sym}
use Rattle.rl_report.proofs.Faults.{no_train_fault}
use Rattle.rl_report.proofs.Steps.{train_step}
use Rattle.rl_report.proofs.reader.ReportLines.next_outcome.Goals as goal

pub returns-in-Some-outcome_of-clause-ok : goal.returns-in-Some-outcome_of-clause-ok
returns-in-Some-outcome_of-clause-ok c = λ text report read at.
    train_step c.args.net.now text c.in-Some.line.now report c.args.t.0 c.in-Some-outcome_of.o c.args.self.now c.pass.new.self
    (sym c.in-Some.ensures) c.in-Some-outcome_of.ensures.some c.pass.ensures.left c.pass.ensures.count at read

pub returns-in-None-outcome_of-clause-err : goal.returns-in-None-outcome_of-clause-err
returns-in-None-outcome_of-clause-err c = λ text report read at none.
    no_train_fault c.args.net.now text report c.args.self.now _ c.args.t.0 c.accepted.ensures read c.next_number.ensures at c.requires none
    (λ line o next is. c.in-None-outcome_of.ensures.none o (let same : c.in-Some.line.now ≡ line = cc (c.in-Some.ensures) in rw same is))

pub returns-in-None-clause-err : goal.returns-in-None-clause-err
returns-in-None-clause-err c = λ text report read at none.
    no_train_fault c.args.net.now text report c.args.self.now _ c.args.t.0 c.accepted.ensures read c.next_number-in-None.ensures at c.requires none
    (λ line o next is. absurd (cc (c.in-None.ensures)))
