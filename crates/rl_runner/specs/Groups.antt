-- How the nodes are shared out among the workers of a round.
use Rattle.std.specs.Prelude.{ℕ, ◌+◌, ◌/◌, ◌%◌, min}

-- a / b, rounded up: one more where something is left over
abbrev pub rounded_up : ℕ → ℕ → ℕ
rounded_up a b = a / b + min 1 (a % b)

-- the nodes of each group. There are no more groups than workers, nor than nodes
abbrev pub group_size : ℕ → ℕ → ℕ
group_size nodes workers = rounded_up nodes (min workers nodes)
