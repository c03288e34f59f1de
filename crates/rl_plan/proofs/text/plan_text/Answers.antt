use Rattle.std.proofs.Common.{◌≡◌, ℕ, List, slice_get, Some, subst, sym}
use Rattle.rl_model.specs.Network.{IsBoxOf, IsSegmentOf}
use Rattle.rl_plan.specs.declared.plan.PlanStep.{PlanStep}
use Rattle.rl_plan.proofs.Steps.{route_there}
use Rattle.rl_plan.proofs.text.plan_text.Goals as goal

pub put_route-requires-clause-there : goal.put_route-requires-clause-there
put_route-requires-clause-there c =
    subst
    (λ (steps : List PlanStep). (k : ℕ) (step : PlanStep) → slice_get steps k ≡ Some step → IsBoxOf c.args.net.now step.b × IsSegmentOf c.args.net.now step.s)
    (sym c.as_slice.ensures)
    (route_there c.args.net.now c.args.from.0 c.args.to.0 c.args.plan.now.steps c.args.plan.now.route c.accepted.ensures c.requires.passes.leads)
