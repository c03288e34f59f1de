use Rattle.relis.proofs.Faults.{by_rule}
use Rattle.relis.proofs.judge.of_network.Goals as goal

pub returns-in_default : goal.returns-in_default
returns-in_default c = λ text d says first.
    rw (c.refused.ensures, c.number.ensures, c.place.ensures)
    (by_rule text d c.args.refusal.now c.in_default.not-NoMemory says first)
