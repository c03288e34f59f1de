use Rattle.std.proofs.Common.{◌≡◌, ℕ, ◌-◌, ◌<◌, ◌≤◌, All, slice_index_or}
use Rattle.rl_runner.specs.Turns.{HasTurned}
use Rattle.rl_runner.proofs.work.one_round.Given as goal

abbrev pub invariant-loop-node : goal.invariant-loop-node
invariant-loop-node g l =
    ((i : ℕ) (d : _) → i < l.node-index
    → HasTurned g.T.Turner.number g.T.Turner.turns g.T.Turner.home 1 (slice_index_or l.initial.group i d) (slice_index_or l.group i d))
    × ((i : ℕ) (d : _) → l.node-index ≤ i → slice_index_or l.group i d ≡ slice_index_or l.initial.group i d)
    × ((n : ℕ) → 1 ≤ n → All (g.T.Turner.ready n) l.initial.group → (i : ℕ) (d : _) → i < l.node-index → g.T.Turner.ready (n - 1) (slice_index_or l.group i d))
