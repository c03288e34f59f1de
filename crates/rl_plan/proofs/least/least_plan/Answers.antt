use Rattle.std.proofs.Common.{◌≡◌, ℕ, List, Option, sym, subst, ◌∙◌}
use Rattle.rl_plan.specs.Levels.{level_of}
use Rattle.rl_plan.specs.Plans.{IsRoute}
use Rattle.rl_plan.specs.Searching.{AreLevels}
use Rattle.rl_plan.proofs.Downward.{least_plan_is, plan_passes}
use Rattle.rl_plan.proofs.least.least_plan.Goals as goal

pub returns-clause-least : goal.returns-clause-least
returns-clause-least c =
    let same : c.in_ok-levels.levels.items ≡ c.from_vec.result = sym c.from_vec.ensures in
    let lent : c.deref-2.result.now ≡ c.from_vec.result = c.deref-2.ensures.value ∙ same in
    let are : AreLevels c.args.net.now c.args.to c.from_vec.result =
    subst (λ (k : List (Option ℕ)). AreLevels c.args.net.now c.args.to k) same c.in_ok-levels.ensures
    in
    let steps : c.level_of-steps.result ≡ level_of c.from_vec.result c.args.from.0 =
    subst (λ (k : List (Option ℕ)). c.level_of-steps.result ≡ level_of k c.args.from.0) (c.deref.ensures.value ∙ same) c.level_of-steps.ensures
    in
    let route : IsRoute c.args.net.now c.from_vec.result c.args.from.0 c.level_of-steps.result c.in_ok-route.route =
    subst (λ (k : List (Option ℕ)). IsRoute c.args.net.now k c.args.from.0 c.level_of-steps.result c.in_ok-route.route) lent c.in_ok-route.ensures
    in
    least_plan_is c.args.net.now c.args.from c.args.to _ are steps route

pub returns-clause-passes : goal.returns-clause-passes
returns-clause-passes c =
    let same : c.in_ok-levels.levels.items ≡ c.from_vec.result = sym c.from_vec.ensures in
    let lent : c.deref-2.result.now ≡ c.from_vec.result = c.deref-2.ensures.value ∙ same in
    let are : AreLevels c.args.net.now c.args.to c.from_vec.result =
    subst (λ (k : List (Option ℕ)). AreLevels c.args.net.now c.args.to k) same c.in_ok-levels.ensures
    in
    let steps : c.level_of-steps.result ≡ level_of c.from_vec.result c.args.from.0 =
    subst (λ (k : List (Option ℕ)). c.level_of-steps.result ≡ level_of k c.args.from.0) (c.deref.ensures.value ∙ same) c.level_of-steps.ensures
    in
    let route : IsRoute c.args.net.now c.from_vec.result c.args.from.0 c.level_of-steps.result c.in_ok-route.route =
    subst (λ (k : List (Option ℕ)). IsRoute c.args.net.now k c.args.from.0 c.level_of-steps.result c.in_ok-route.route) lent c.in_ok-route.ensures
    in
    plan_passes c.args.net.now c.args.from c.args.to _ are steps route
