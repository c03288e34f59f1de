use Rattle.std.proofs.Common.{◌≡◌, None}
use Rattle.rl_drafts.specs.Search.{among_arms_of, first_below}
use Rattle.rl_net.proofs.rules_7_to_9_arms.first_no_segment.Given as goal

abbrev pub invariant-loop-i : goal.invariant-loop-i
invariant-loop-i l = first_below (among_arms_of l.index 8) l.i ≡ None
