use Rattle.relis.proofs.Audited.{safe_rounds, safe_schedules}
use Rattle.relis.proofs.laws.drives_are_safe.Goals as goal

pub returns-clause-rounds : goal.returns-clause-rounds
returns-clause-rounds c = safe_rounds c.few_moves.ensures.report

pub returns-clause-schedules : goal.returns-clause-schedules
returns-clause-schedules c = safe_schedules c.few_moves.ensures.report c.few_moves.ensures.text
