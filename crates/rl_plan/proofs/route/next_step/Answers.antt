use Rattle.rl_plan.proofs.Downward.{leads_on}
use Rattle.rl_plan.proofs.route.next_step.Goals as goal

pub returns-in-None : goal.returns-in-None
returns-in-None c =
    let step = leads_on c.args.net.now c.args.to c.args.levels.now c.args.s.0 c.args.n c.requires.levels c.requires.above in
    absurd (c.in-None.ensures.none step.0 step.1)
