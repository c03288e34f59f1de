use Rattle.rl_tables.specs.Tables.{IsStepRow}
use Rattle.rl_tables.proofs.ListsOf.{one_more}
use Rattle.rl_tables.proofs.compiler.step_rows.Goals as goal

pub loop-k-preserved : goal.loop-k-preserved
loop-k-preserved c =
    rw c.in_ok-push.ensures.ok (one_more (IsStepRow c.args.net.now c.args.t.0) c.loop-k.k c.loop-k.rows c.step_row.result c.loop-k.invariant c.step_row.ensures)
