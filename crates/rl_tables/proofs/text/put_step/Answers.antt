use Rattle.std.proofs.Common.{arith, decimal}
use Rattle.std.proofs.lemmas.Grind.{common_steps}
use Rattle.rl_model.specs.Network.{box_name}
use Rattle.rl_tables.proofs.LineWords.{step_behind}
use Rattle.rl_tables.proofs.text.put_step.Goals as goal

pub returns : goal.returns
returns c =
    let net = c.args.net.now in
    let row = c.args.row.now in
    let whole = step_behind c.args.out.now (decimal c.args.k) (box_name net row.b.0) (decimal row.x.0) (decimal row.y.0) (box_name net row.c.0)
    (decimal row.c_arm.0) (box_name net row.a.0) (decimal row.a_arm.0) in
    grind (arith, common_steps, whole)
