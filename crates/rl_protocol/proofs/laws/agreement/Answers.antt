use Rattle.rl_protocol.proofs.Agreed.{agrees_start, agrees_next, agrees}
use Rattle.rl_protocol.proofs.laws.agreement.Goals as goal

pub returns : goal.returns
returns c = record { start = agrees_start; next = agrees_next; runs = agrees }
