use Rattle.std.proofs.Common.{◌≡◌, None}
use Rattle.rl_drafts.specs.Search.{among_arms_of, first_below}
use Rattle.rl_net.proofs.rules_7_to_9_arms.first_same_box.Given as goal

abbrev pub invariant-loop-i : goal.invariant-loop-i
invariant-loop-i l = first_below (among_arms_of l.draft 9) l.i ≡ None
