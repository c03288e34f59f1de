use Rattle.rl_schedule.proofs.Driving.{goes_passed}
use Rattle.rl_schedule.proofs.drives.drive_turn.Goals as goal

pub returns-then-passes-clause-ok : goal.returns-then-passes-clause-ok
returns-then-passes-clause-ok c =
    let idle = c.passes.ensures.passed c.if-passes.true in
    goes_passed c.args.core.now c.passes.new.self c.args.node.0 c.args.moves.now.items c.reached.ensures idle.turned idle.no_event idle.line idle.tries
