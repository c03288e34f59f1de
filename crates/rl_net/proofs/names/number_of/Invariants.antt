use Rattle.std.proofs.Common.{◌≡◌, take, map, None}
use Rattle.rl_drafts.specs.Drafts.{number_in}
use Rattle.rl_net.proofs.names.number_of.Given as goal

abbrev pub invariant-loop-i : goal.invariant-loop-i
invariant-loop-i g l = number_in (map g.T.Named.name_of (take l.i l.items)) l.name ≡ None
