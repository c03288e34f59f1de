use Rattle.std.proofs.Common.{sym, ◌∙◌, arith}
use Rattle.rl_jam.proofs.Around.{is_in, not_in, next_from}
use Rattle.rl_jam.proofs.rings.next_row.Goals as goal
use Rattle.rl_jam.proofs.rings.next_row.Goals.{then-t-first-via-then-t-first, then-t-first-via-else-t-first+then-is_in}

pub returns-then-t-first : goal.returns-then-t-first
returns-then-t-first c =
    elim c.then-t-first.branch [
      | then-t-first-via-then-t-first w ↦ λ row goes. let above = goes.above in let less = w.if-t-first.true in omega arith
      | then-t-first-via-else-t-first+then-is_in w ↦ λ row goes.
          is_in c.args.rows.now c.args.t.0 (sym w.is_in.ensures ∙ w.if-is_in.true) goes.new
    ]

pub returns : goal.returns
returns c =
    next_from c.args.report.now c.args.first.0 c.args.rows.now c.args.t.0 c.wait_of.result (omega arith)
    (not_in c.args.rows.now c.args.t.0 (sym c.is_in.ensures ∙ c.if-is_in.false)) c.wait_of.ensures
