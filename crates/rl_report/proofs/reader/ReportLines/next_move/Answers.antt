use Rattle.std.proofs.Common.{sym}
use Rattle.rl_report.proofs.Steps.{move_step}
use Rattle.rl_report.proofs.reader.ReportLines.next_move.Goals as goal

pub returns-clause-some : goal.returns-clause-some
returns-clause-some c = λ text moves read.
    move_step c.args.net.now text c.in_ok-peek.field-0.now moves c.in_ok-m.m c.args.self.now c.pass.new.self
    (sym c.in_ok-peek.ensures) c.in_ok-m.ensures.some c.pass.ensures.left c.pass.ensures.count read
