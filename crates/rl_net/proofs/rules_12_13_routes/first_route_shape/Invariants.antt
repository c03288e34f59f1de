use Rattle.std.proofs.Common.{◌≡◌, None}
use Rattle.rl_base.specs.declared.place.Place.TheVariants.{TrainRoute}
use Rattle.rl_drafts.specs.Search.{broken_at, first_below}
use Rattle.rl_net.proofs.rules_12_13_routes.first_route_shape.Given as goal

abbrev pub invariant-loop-i : goal.invariant-loop-i
invariant-loop-i l = first_below (λ i. broken_at l.draft 12 (TrainRoute i)) l.i ≡ None
