use Rattle.std.proofs.Common.{◌≡◌, [], length}
use Rattle.rl_audit.specs.Counting.{AreCounts}
use Rattle.rl_audit.proofs.counts.no_counts.Given as goal

abbrev pub invariant-loop : goal.invariant-loop
invariant-loop l = record { count : length l.counts.items ≡ l.counter; none : AreCounts [] l.counts.items }
