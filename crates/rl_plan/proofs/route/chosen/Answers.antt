use Rattle.rl_plan.proofs.Around.{ends_there}
use Rattle.rl_plan.proofs.Chosen.{chosen_low}
use Rattle.rl_plan.proofs.route.chosen.Goals as goal

pub lowest-requires : goal.lowest-requires
lowest-requires c =
    record { there = ((ends_there c.args.net.now c.args.s.0 c.ends.result c.accepted.ensures c.ends.ensures).0, c.requires.there) }

pub lowest-requires-2 : goal.lowest-requires-2
lowest-requires-2 c =
    record { there = ((ends_there c.args.net.now c.args.s.0 c.ends.result c.accepted.ensures c.ends.ensures).1, c.requires.there) }

pub returns-in-Some-clause-some : goal.returns-in-Some-clause-some
returns-in-Some-clause-some c =
    chosen_low c.args.net.now c.args.levels.now c.args.s.0 c.args.n c.ends.result c.in-Some.r c.accepted.ensures c.ends.ensures c.in-Some.ensures
