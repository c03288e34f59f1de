use Rattle.rl_words.proofs.owners.node_at.Goals as goal

pub returns-in-Resv-clause-none : goal.returns-in-Resv-clause-none
returns-in-Resv-clause-none c = rw c.in-Resv.is c.resv_owner.ensures.none

pub returns-in-Lock-clause-none : goal.returns-in-Lock-clause-none
returns-in-Lock-clause-none c = rw c.in-Lock.is c.lock_owner.ensures.none

pub returns-in-Mail-clause-none : goal.returns-in-Mail-clause-none
returns-in-Mail-clause-none c = rw c.in-Mail.is c.mail_owner.ensures.none

pub returns-in-Run-clause-none : goal.returns-in-Run-clause-none
returns-in-Run-clause-none c = rw c.in-Run.is c.run_owner.ensures.none

pub returns-in-Sense-clause-none : goal.returns-in-Sense-clause-none
returns-in-Sense-clause-none c = rw c.in-Sense.is c.sense_owner.ensures.none
