use Rattle.rl_tables.specs.Tables.{IsTrainTable}
use Rattle.rl_tables.proofs.ListsOf.{one_more}
use Rattle.rl_tables.proofs.compiler.train_tables.Goals as goal

pub loop-t-preserved : goal.loop-t-preserved
loop-t-preserved c =
    rw c.in_ok-push.ensures.ok
    (one_more (IsTrainTable c.args.net.now) c.loop-t.t c.loop-t.tables c.in_ok-train_table.field-0 c.loop-t.invariant c.in_ok-train_table.ensures)
