-- What stands where room is refused to one of the nodes.
use Rattle.std.specs.Prelude.{◌≡◌, ℕ, ◌<◌, ◌≤◌, List, length, slice_index_or}
use Rattle.rl_nodes.specs.Nodes.{Node, IsReady}

-- the nodes before that one are ready for n turns, and it and those behind it are as they were
pub record IsRefusedAtOne (n : ℕ) (old new : List Node) : Type 0 where
  pub place : ℕ
  pub there : place < length old
  pub before : (i : ℕ) (d : Node) → i < place → IsReady n (slice_index_or new i d)
  pub behind : (i : ℕ) (d : Node) → place ≤ i → slice_index_or new i d ≡ slice_index_or old i d
