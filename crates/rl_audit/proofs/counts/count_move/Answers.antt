use Rattle.rl_audit.proofs.Counting.{counted_leave, counted_refuse, counted_bar}
use Rattle.rl_audit.proofs.counts.count_move.Goals as goal

pub returns-in-Leave-clause-counted : goal.returns-in-Leave-clause-counted
returns-in-Leave-clause-counted c = λ moves few are.
    rw c.in-Leave.is
    (counted_leave moves c.args.counts.now.items c.add_made.new.counts.items c.in-Leave.t c.in-Leave.s
    (rw c.in-Leave.is at c.requires) few are c.add_made.ensures.counted)

pub returns-in-Refuse-clause-counted : goal.returns-in-Refuse-clause-counted
returns-in-Refuse-clause-counted c = λ moves few are.
    rw c.in-Refuse.is
    (counted_refuse moves c.args.counts.now.items c.add_refused.new.counts.items c.in-Refuse.t c.in-Refuse.s c.in-Refuse.b c.in-Refuse.u
    (rw c.in-Refuse.is at c.requires) few are c.add_refused.ensures.counted)

pub returns-in-Bar-clause-counted : goal.returns-in-Bar-clause-counted
returns-in-Bar-clause-counted c = λ moves few are.
    rw c.in-Bar.is
    (counted_bar moves c.args.counts.now.items c.add_refused-in-Bar.new.counts.items c.in-Bar.t c.in-Bar.b c.in-Bar.u
    (rw c.in-Bar.is at c.requires) few are c.add_refused-in-Bar.ensures.counted)
