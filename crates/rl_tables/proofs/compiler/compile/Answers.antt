use Rattle.rl_tables.proofs.Lines.{is_line}
use Rattle.rl_tables.proofs.compiler.compile.Goals as goal

pub from_tables-requires : goal.from_tables-requires
from_tables-requires c =
    is_line c.args.net.now _ c.box_tables.ensures.network
    (record { boxes = c.in_ok-box_tables.ensures.tables; trains = c.in_ok-train_tables.ensures })
