use Rattle.std.proofs.Common.{◌≡◌, None}
use Rattle.rl_base.specs.declared.place.Place.TheVariants.{RouteItem}
use Rattle.rl_drafts.specs.Search.{broken_at, first_below}
use Rattle.rl_net.proofs.rule_14_fits.first_unfit_place.Given as goal

abbrev pub invariant-loop-j : goal.invariant-loop-j
invariant-loop-j l = first_below (λ j. broken_at l.index 14 (RouteItem l.i j)) l.j ≡ None
