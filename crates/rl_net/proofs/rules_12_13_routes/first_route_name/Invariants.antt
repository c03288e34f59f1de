use Rattle.std.proofs.Common.{◌≡◌, None}
use Rattle.rl_drafts.specs.Search.{among_places_of, first_below}
use Rattle.rl_net.proofs.rules_12_13_routes.first_route_name.Given as goal

abbrev pub invariant-loop-i : goal.invariant-loop-i
invariant-loop-i l = first_below (among_places_of l.index 13) l.i ≡ None
