use Rattle.relis.proofs.Schedules.{may_refuse}
use Rattle.relis.proofs.drive.schedule_on.Goals as goal

pub returns-in-Err : goal.returns-in-Err
returns-in-Err c =
    let net = c.args.net.now in
    let text = c.args.schedule.now in
    c.refusal_of.ensures net text c.args.tries (may_refuse net text c.in-Err.refusal c.in-Err.ensures.answer)
