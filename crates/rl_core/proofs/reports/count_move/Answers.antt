use Rattle.std.proofs.Common.{⊎_elim}
use Rattle.rl_core.proofs.Counting.{leave_counted, refuse_counted, bar_counted}
use Rattle.rl_core.proofs.reports.count_move.Goals as goal

pub returns-in-Leave : goal.returns-in-Leave
returns-in-Leave c = λ moves trains few before.
    rw c.in-Leave.is
    (leave_counted moves trains c.in-Leave.t c.in-Leave.s c.args.counts.now c.add.new.counts few (c.add.ensures.there, c.add.ensures.absent) before)

pub returns-in-Refuse : goal.returns-in-Refuse
returns-in-Refuse c = λ moves trains few before.
    let old = c.args.counts.now in
    let new = c.add-in-Refuse.new.counts in
    let there = c.add-in-Refuse.ensures.there in
    let absent = c.add-in-Refuse.ensures.absent in
    ⊎_elim
    (λ is. rw is.3 (refuse_counted moves trains c.in-Refuse.t is.0 is.1 is.2 old new few (there, absent) before))
    (λ is. rw is.2 (bar_counted moves trains c.in-Refuse.t is.0 is.1 old new few (there, absent) before))
    c.in-Refuse.is
