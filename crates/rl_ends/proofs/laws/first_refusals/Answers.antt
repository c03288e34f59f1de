use Rattle.rl_ends.proofs.Search.{first_refusal-some, first_refusal-found, first_refusal-none, first_refusal-unbroken}
use Rattle.rl_ends.proofs.laws.first_refusals.Goals as goal

pub returns : goal.returns
returns c = record { first = first_refusal-some; found = first_refusal-found; unbroken = first_refusal-none; none = first_refusal-unbroken }
