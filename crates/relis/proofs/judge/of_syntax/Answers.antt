use Rattle.relis.proofs.Faults.{by_reading}
use Rattle.relis.proofs.judge.of_syntax.Goals as goal

pub returns-in_default : goal.returns-in_default
returns-in_default c = λ text means.
    rw (c.refused.ensures, c.number.ensures, c.place.ensures) (by_reading text c.args.refusal c.in_default.not-NoMemory means)
