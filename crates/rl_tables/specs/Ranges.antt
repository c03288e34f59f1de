-- The numbers in a row are numbers of the network.
use Rattle.std.specs.Prelude.{◌<◌, length}
use Rattle.rl_model.specs.declared.network.NetworkPlan.{NetworkPlan}
use Rattle.rl_tables.specs.declared.table.StepRow.{StepRow}

-- the segments and boxes of the row are the network's
pub record IsRowOf (net : NetworkPlan) (row : StepRow) : Type 0 where
  pub from : row.s.0 < length net.segments
  pub to : row.s2.0 < length net.segments
  pub through : row.b.0 < length net.boxes
  pub far : row.c.0 < length net.boxes
  pub back : row.a.0 < length net.boxes
