use Rattle.std.proofs.Common.{◌≡◌, Bool, true, Some, sym, subst, arith}
use Rattle.rl_train.specs.declared.mind.TrainMind.{TrainMind}
use Rattle.rl_train.specs.Mind.{row_of, IsTrainMind}
use Rattle.rl_train.specs.Steps.{heard}
use Rattle.rl_train.proofs.KeptLemmas.{heard_kept}
use Rattle.rl_train.proofs.mind.TrainMind.hear_yes.Goals as goal

pub returns-then-asks-clause-kept : goal.returns-then-asks-clause-kept
returns-then-asks-clause-kept c =
    let mind = c.args.self.now in
    let row = c.in_ok-row.row.now in
    let waits : c.args.self.now.waits ≡ true = grind arith in
    let here : row_of c.args.t.now c.args.self.now ≡ Some c.in_ok-row.row.now = grind arith in
    subst (λ (m : TrainMind). IsTrainMind c.args.t.now m) (sym c.heard.ensures)
    (subst (λ (more : Bool). IsTrainMind c.args.t.now (heard row more mind)) (sym c.looks_on.ensures)
    (heard_kept c.args.t.now row mind c.requires.table c.requires.mind waits here))
