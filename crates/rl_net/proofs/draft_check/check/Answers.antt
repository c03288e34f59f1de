use Rattle.rl_net.proofs.Answered.{is_accepted, is_refusal, only_memory, one_answer}
use Rattle.rl_net.proofs.draft_check.check.Goals as goal

pub returns-clause-accepted : goal.returns-clause-accepted
returns-clause-accepted c = is_accepted c.args.draft c.searched.result (c.first_refusals.ensures.accepted c.args.draft) c.searched.ensures.none

pub returns-clause-refused : goal.returns-clause-refused
returns-clause-refused c = is_refusal c.args.draft c.searched.result (c.first_refusals.ensures.first c.args.draft) c.searched.ensures.found

pub returns-clause-only_memory : goal.returns-clause-only_memory
returns-clause-only_memory c = only_memory c.args.draft c.searched.result
    (is_refusal c.args.draft c.searched.result (c.first_refusals.ensures.first c.args.draft) c.searched.ensures.found)

pub returns-clause-exact : goal.returns-clause-exact
returns-clause-exact c other = one_answer c.args.draft c.searched.result other (c.first_refusals.ensures.found c.args.draft)
    (c.first_refusals.ensures.none c.args.draft) c.searched.ensures.none c.searched.ensures.network c.searched.ensures.found
