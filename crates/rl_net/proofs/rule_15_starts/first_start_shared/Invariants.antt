use Rattle.std.proofs.Common.{◌≡◌, None}
use Rattle.rl_drafts.specs.Search.{among_places_of, first_below}
use Rattle.rl_net.proofs.rule_15_starts.first_start_shared.Given as goal

abbrev pub invariant-loop-i : goal.invariant-loop-i
invariant-loop-i l = first_below (among_places_of l.draft 15) l.i ≡ None
