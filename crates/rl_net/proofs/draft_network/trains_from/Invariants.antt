use Rattle.std.proofs.Common.{◌≡◌, map, take}
use Rattle.rl_drafts.specs.Drafts.{train_of}
use Rattle.rl_net.proofs.draft_network.trains_from.Given as goal

abbrev pub invariant-loop-i : goal.invariant-loop-i
invariant-loop-i l = l.trains ≡ map (train_of l.index) (take l.i l.index.trains)
