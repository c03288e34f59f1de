use Rattle.std.proofs.Common.{arith}
use Rattle.std.proofs.lemmas.Grind.{common_steps}
use Rattle.rl_syntax.specs.NameConditions.{of_box}
use Rattle.rl_syntax.proofs.Conditions.{of_list-drop}
use Rattle.rl_syntax.proofs.draft_names.test_boxes.Goals as goal

pub returns-in_err-test_box : goal.returns-in_err-test_box
returns-in_err-test_box c =
    let next = of_list-drop of_box c.loop-i.i c.args.boxes.now c.index-boxes-i.result (omega arith) c.index-boxes-i.is in
    grind (arith, common_steps, next)

pub loop-i-preserved : goal.loop-i-preserved
loop-i-preserved c =
    let next = of_list-drop of_box c.loop-i.i c.args.boxes.now c.index-boxes-i.result (omega arith) c.index-boxes-i.is in
    grind (arith, common_steps, next)
