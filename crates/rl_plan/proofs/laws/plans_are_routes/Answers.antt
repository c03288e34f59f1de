use Rattle.std.proofs.Common.{ℕ, ◌≤◌, Option, Some, subst, sym}
use Rattle.rl_base.specs.declared.limits.TheConstants.{MAX_STEPS}
use Rattle.rl_drafts.specs.Drafts.{network_of}
use Rattle.rl_drafts.proofs.Accepted.{IsSound-from_accepted}
use Rattle.rl_drafts.proofs.Networks.{IsNetwork-accepted}
use Rattle.rl_drafts.proofs.Refusals.{first_refusal-accepted}
use Rattle.rl_plan.specs.Plans.{IsRouteOf}
use Rattle.rl_plan.proofs.RouteRules.{rules_kept}
use Rattle.rl_plan.proofs.laws.plans_are_routes.Goals as goal

pub returns : goal.returns
returns c = λ d start end plan n i trains names accepted there passes is few along.
    let leads : IsRouteOf (network_of d) start.0 end.0 (Some n) plan.route =
    subst (λ (o : Option ℕ). IsRouteOf (network_of d) start.0 end.0 o plan.route) is passes.leads in
    rules_kept d end.0 start.0 plan.route (IsSound-from_accepted d accepted) (IsNetwork-accepted d names (first_refusal-accepted d accepted)) there leads.1
    (subst (λ (k : ℕ). k ≤ MAX_STEPS) (sym leads.0) few) i trains along
