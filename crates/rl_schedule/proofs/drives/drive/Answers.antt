use Rattle.rl_schedule.proofs.Driving.{driven_all, driven_partly, at_error}
use Rattle.rl_schedule.proofs.drives.drive.Goals as goal

pub returns-in_err-drive_items-clause-err : goal.returns-in_err-drive_items-clause-err
returns-in_err-drive_items-clause-err c =
    at_error c.from_residual.result (driven_partly c.new-moves.ensures.items c.in_err-drive_items.ensures.err)

pub returns-clause-ok : goal.returns-clause-ok
returns-clause-ok c = rw c.from_vec.ensures (driven_all c.new-moves.ensures.items c.in_ok-drive_items.ensures.ok)
