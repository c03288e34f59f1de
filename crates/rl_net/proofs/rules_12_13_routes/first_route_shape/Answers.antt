use Rattle.std.proofs.Common.{length, arith, sym}
use Rattle.rl_base.specs.declared.place.Place.TheVariants.{TrainRoute}
use Rattle.rl_drafts.specs.Refusals.{breaks}
use Rattle.rl_net.proofs.Search.{tried_found}
use Rattle.rl_net.proofs.rules_12_13_routes.first_route_shape.Goals as goal

pub returns-then-is_even_route : goal.returns-then-is_even_route
returns-then-is_even_route c =
    let d = c.args.draft.now in
    sym (tried_found (λ i. breaks d 12 (TrainRoute i)) (λ i. TrainRoute i) c.loop-i.i (length d.trains) c.loop-i.invariant (cc) (omega arith))
