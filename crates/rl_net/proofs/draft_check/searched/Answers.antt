use Rattle.std.proofs.Common.{◌≡◌, None, rules}
use Rattle.rl_drafts.specs.Search.{first_refusal}
use Rattle.rl_net.proofs.NamedNetworks.{named_network}
use Rattle.rl_net.proofs.draft_check.searched.Goals as goal

pub from_plan-requires : goal.from_plan-requires
from_plan-requires c =
    let none : first_refusal c.args.draft.now ≡ None = search rules in
    let law = c.accepted_networks.ensures.network c.args.draft.now c.requires.names none in
    rw (c.in_ok-plan.ensures, c.of-index.ensures) (named_network c.args.draft.now c.in_ok-names.names law c.in_ok-names.ensures.tables)
