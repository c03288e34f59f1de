use Rattle.relis.proofs.Faults.{by_report}
use Rattle.relis.proofs.audit.refusal_of.Goals as goal

pub returns-in_default : goal.returns-in_default
returns-in_default c = λ net report cause.
    rw (c.refused.ensures, c.number.ensures, c.place.ensures) (by_report net report c.args.refusal c.in_default.not-NoMemory cause)
