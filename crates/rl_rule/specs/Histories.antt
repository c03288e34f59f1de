-- A history by itself, newest first, and sums over nodes.
use Rattle.std.specs.Prelude.{◌≡◌, ℕ, zero, suc, ◌+◌, ◌<◌, List, [], ◌∷◌}
use Rattle.rl_record.specs.declared.event.Event.{Event}
use Rattle.rl_merge.specs.Chains.{clock_left}

-- every event is the node's, and its stamp is above the one before it
abbrev pub IsHistory : ℕ → List Event → Type 0
IsHistory n [] = Unit {0}
IsHistory n (e ∷ earlier) = (e.node.0 ≡ n) × (clock_left earlier < e.stamp) × IsHistory n earlier

-- the sum of f at the numbers below k
abbrev pub sum_below : ℕ → (ℕ → ℕ) → ℕ
sum_below zero f = 0
sum_below (suc k) f = sum_below k f + f k
