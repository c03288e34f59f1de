use Rattle.std.proofs.Common.{Ok, Err}
use Rattle.std.proofs.lemmas.Result.{err_from_is_err_and}
use Rattle.rl_schedule.proofs.Meanings.{means_unless, only_unless, read_unless}
use Rattle.rl_schedule.proofs.reading.read_schedule.Goals as goal

pub returns-in_err-items-clause-meaning : goal.returns-in_err-items-clause-meaning
returns-in_err-items-clause-meaning c =
    let p = err_from_is_err_and c.from_residual.result c.from_residual.ensures.1 in
    rw (p.1, p.2)
    (means_unless c.args.net.now c.layout-layout.ensures.network c.args.text.now (Err c.in_err-items.field-0.0)
    (read_unless c.args.net.now c.args.text.now (Err c.in_err-items.field-0.0) c.if-text-gt-MAX_SCHEDULE_BYTES.false c.in_err-items.ensures.answer))

pub returns-in_err-items-clause-exact : goal.returns-in_err-items-clause-exact
returns-in_err-items-clause-exact c =
    let p = err_from_is_err_and c.from_residual.result c.from_residual.ensures.1 in
    rw (p.1, p.2)
    (λ other so. only_unless c.args.net.now c.layout-layout.ensures.network c.args.text.now (Err c.in_err-items.field-0.0) other
    (read_unless c.args.net.now c.args.text.now (Err c.in_err-items.field-0.0) c.if-text-gt-MAX_SCHEDULE_BYTES.false c.in_err-items.ensures.answer) so)

pub returns-clause-meaning : goal.returns-clause-meaning
returns-clause-meaning c =
    rw c.of.ensures
    (means_unless c.args.net.now c.layout-layout.ensures.network c.args.text.now (Ok c.in_ok-items.items)
    (read_unless c.args.net.now c.args.text.now (Ok c.in_ok-items.items) c.if-text-gt-MAX_SCHEDULE_BYTES.false c.in_ok-items.ensures.answer))

pub returns-clause-exact : goal.returns-clause-exact
returns-clause-exact c =
    rw c.of.ensures
    (λ other so. only_unless c.args.net.now c.layout-layout.ensures.network c.args.text.now (Ok c.in_ok-items.items) other
    (read_unless c.args.net.now c.args.text.now (Ok c.in_ok-items.items) c.if-text-gt-MAX_SCHEDULE_BYTES.false c.in_ok-items.ensures.answer) so)
