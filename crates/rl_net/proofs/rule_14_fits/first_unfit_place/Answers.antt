use Rattle.std.proofs.Common.{arith, sym}
use Rattle.rl_base.specs.declared.place.Place.TheVariants.{RouteItem}
use Rattle.rl_drafts.specs.Refusals.{breaks}
use Rattle.rl_drafts.specs.Search.{route_length}
use Rattle.rl_net.proofs.Few.{route_length_train}
use Rattle.rl_net.proofs.Search.{tried_found}
use Rattle.rl_net.proofs.rule_14_fits.first_unfit_place.Goals as goal

pub returns-then-is_unfit : goal.returns-then-is_unfit
returns-then-is_unfit c =
    let d = c.args.index.now in
    sym (tried_found (λ j. breaks d 14 (RouteItem c.args.i j)) (λ j. RouteItem c.args.i j) c.loop-j.j (route_length d c.args.i) c.loop-j.invariant (cc)
    (omega (arith, route_length_train d c.args.i _ (rw c.draft.ensures at c.at.ensures.there))))
