use Rattle.rl_drafts.proofs.Refusals.{first_refusal-some, first_refusal-found, first_refusal-none, first_refusal-accepted}
use Rattle.rl_drafts.proofs.laws.first_refusals.Goals as goal

pub returns-clause-first : goal.returns-clause-first
returns-clause-first c = first_refusal-some

pub returns-clause-found : goal.returns-clause-found
returns-clause-found c = first_refusal-found

pub returns-clause-accepted : goal.returns-clause-accepted
returns-clause-accepted c = first_refusal-none

pub returns-clause-none : goal.returns-clause-none
returns-clause-none c = first_refusal-accepted
