use Rattle.relis.proofs.RunLaws.{fate_spent, fate_arrived}
use Rattle.rl_model.specs.Safety.{world_after}
use Rattle.relis.proofs.laws.spent_attempts.Goals as goal

pub returns : goal.returns
returns c =
    record {
      spent = λ net report t o right at is.
          let guards = right.outcomes t o at in
          (fate_spent net report.tries t o.made o.refused (world_after net report.moves) o.fate is guards.1.0, guards.0.1);
      arrived = λ net report t o right ended at none enough.
          let guards = right.outcomes t o at in
          fate_arrived net report.tries t o.made o.refused (world_after net report.moves) o.fate (ended t o at) guards.1.0 none enough;
    }
