use Rattle.std.proofs.Common.{◌≡◌, None}
use Rattle.rl_base.specs.declared.place.Place.TheVariants.{BoxSide}
use Rattle.rl_drafts.specs.Search.{broken_at, first_below}
use Rattle.rl_net.proofs.rule_11_sides.first_at.Given as goal

abbrev pub invariant-loop-i : goal.invariant-loop-i
invariant-loop-i l = first_below (λ i. broken_at l.draft 11 (BoxSide i)) l.i ≡ None
