use Rattle.std.proofs.Common.{◌≡◌, ℕ, ◌<◌, ◌≤◌, get_or, length}
use Rattle.rl_schedule.proofs.nodes.is_same.Given as goal

-- the bytes from here on are the same
abbrev pub invariant-loop-left : goal.invariant-loop-left
invariant-loop-left l =
    record {
      within : l.left ≤ length l.text;
      same : (k : ℕ) → l.left ≤ k → k < length l.text → get_or l.text k 0 ≡ get_or l.other k 0;
    }

abbrev pub decreases-loop-left : goal.decreases-loop-left
decreases-loop-left l = l.left
