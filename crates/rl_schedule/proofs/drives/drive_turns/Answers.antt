use Rattle.std.proofs.Common.{◌+◌, ◌-◌, [], ◌∷◌, replicate}
use Rattle.rl_schedule.proofs.Driving.{goes_more, breaks_now, breaks_among, at_error}
use Rattle.rl_schedule.proofs.Pieces.{replicate_next, replicate_more}
use Rattle.rl_schedule.proofs.drives.drive_turns.Goals as goal

pub returns-in_err-drive_turn-clause-err : goal.returns-in_err-drive_turn-clause-err
returns-in_err-drive_turn-clause-err c =
    at_error c.from_residual.result
    (rw c.in_err-drive_turn.ensures.err
    (breaks_among (replicate c.args.count c.args.node.0) (replicate (c.args.count - (c.loop-i.i + 1)) c.args.node.0) c.loop-i.invariant
    (breaks_now c.loop-i.core c.loop-i.moves.items (c.args.node.0 ∷ [])) (replicate_next c.args.node.0 c.loop-i.i c.args.count c.loop-i-test.true)))

pub loop-i-preserved : goal.loop-i-preserved
loop-i-preserved c = rw (← replicate_more c.args.node.0 c.loop-i.i) (goes_more c.loop-i.invariant c.in_ok-drive_turn.ensures.ok)
