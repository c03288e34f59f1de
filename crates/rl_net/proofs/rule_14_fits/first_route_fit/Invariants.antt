use Rattle.std.proofs.Common.{◌≡◌, None}
use Rattle.rl_drafts.specs.Search.{among_places_of, first_below}
use Rattle.rl_net.proofs.rule_14_fits.first_route_fit.Given as goal

abbrev pub invariant-loop-i : goal.invariant-loop-i
invariant-loop-i l = first_below (among_places_of l.index 14) l.i ≡ None
