use Rattle.rl_tables.specs.Tables.{IsBoxTable}
use Rattle.rl_tables.proofs.ListsOf.{one_more}
use Rattle.rl_tables.proofs.compiler.box_tables.Goals as goal

pub loop-b-preserved : goal.loop-b-preserved
loop-b-preserved c =
    rw c.in_ok-push.ensures.ok (one_more (IsBoxTable c.args.net.now) c.loop-b.b c.loop-b.tables c.box_table.result c.loop-b.invariant c.box_table.ensures)
