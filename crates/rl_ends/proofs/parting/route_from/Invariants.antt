use Rattle.std.proofs.Common.{◌≡◌, take}
use Rattle.rl_ends.proofs.parting.route_from.Given as goal

abbrev pub invariant-loop-name : goal.invariant-loop-name
invariant-loop-name l = l.names ≡ take l.name-index l.route
