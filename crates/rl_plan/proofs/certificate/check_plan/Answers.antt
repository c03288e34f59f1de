use Rattle.std.proofs.Common.{ℕ, List, Option, ◌↔◌, IsTrue, subst}
use Rattle.rl_plan.specs.Plans.{Shows}
use Rattle.rl_plan.proofs.Shortest.{own_level}
use Rattle.rl_plan.proofs.certificate.check_plan.Goals as goal

pub returns : goal.returns
returns c =
    let shown : IsTrue c.shows.result ↔ Shows c.args.net.now c.args.from c.args.to c.args.plan.now.steps c.args.plan.now.route c.args.plan.now.levels =
    subst
    (λ (k : List (Option ℕ)). IsTrue c.shows.result ↔ Shows c.args.net.now c.args.from c.args.to c.args.plan.now.steps c.args.plan.now.route k)
    c.as_slice.ensures c.shows.ensures
    in record {
      passes = shown;
      least = λ yes.
          let plan = shown.0 yes in
          own_level c.args.net.now c.args.plan.now.levels c.args.to.0 c.args.from.0 c.args.plan.now.steps c.args.plan.now.route plan.near plan.ends.end
          plan.ends.begin plan.leads;
    }
