use Rattle.rl_outside.proofs.Named.{times_in-note, times_in-note_other}
use Rattle.rl_outside.proofs.failed.note.Goals as goal

pub returns-clause-counted : goal.returns-clause-counted
returns-clause-counted c = rw (c.in_ok-push.ensures.ok, c.in_ok-name.ensures) (times_in-note c.args.names.now c.args.name.now)

pub returns-clause-others : goal.returns-clause-others
returns-clause-others c = rw (c.in_ok-push.ensures.ok, c.in_ok-name.ensures) (times_in-note_other c.args.names.now c.args.name.now)
