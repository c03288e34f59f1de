use Rattle.std.proofs.Common.{arith}
use Rattle.std.proofs.lemmas.Grind.{common_steps}
use Rattle.rl_syntax.specs.NameConditions.{of_train}
use Rattle.rl_syntax.proofs.Conditions.{of_list-drop}
use Rattle.rl_syntax.proofs.draft_names.test_trains.Goals as goal

pub returns-in_err-test_train : goal.returns-in_err-test_train
returns-in_err-test_train c =
    let next = of_list-drop of_train c.loop-i.i c.args.trains.now c.index-trains-i.result (omega arith) c.index-trains-i.is in
    grind (arith, common_steps, next)

pub loop-i-preserved : goal.loop-i-preserved
loop-i-preserved c =
    let next = of_list-drop of_train c.loop-i.i c.args.trains.now c.index-trains-i.result (omega arith) c.index-trains-i.is in
    grind (arith, common_steps, next)
