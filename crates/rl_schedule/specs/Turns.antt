-- The turns of a schedule: which nodes they are of, in order, and how many they are.
use Rattle.std.specs.Prelude.{ℕ, ◌*◌, ◌<◌, ◌≤◌, List, replicate, sum_by, flat_map, All}
use Rattle.std.specs.List.{repeat, range_with_len}
use Rattle.rl_base.specs.declared.limits.TheConstants.{MAX_TURNS}
use Rattle.rl_schedule.specs.declared.schedules.Item.{Item}
use Rattle.rl_schedule.specs.declared.schedules.Item.TheVariants.{Turn, Round}

-- the turns of an item, by the numbers of their nodes, of which there are so many: one node so often, or so often all
-- nodes in order
abbrev pub turns_in : ℕ → Item → List ℕ
turns_in nodes (Turn node count) = replicate count node.0
turns_in nodes (Round count) = repeat count (range_with_len 0 nodes)

-- the turns of a schedule, in order
abbrev pub turns_of : ℕ → List Item → List ℕ
turns_of nodes items = flat_map (turns_in nodes) items

-- how many turns an item stands for, and how many some items do
abbrev pub turn_count : ℕ → Item → ℕ
turn_count nodes (Turn node count) = count
turn_count nodes (Round count) = count * nodes

abbrev pub turns_together : ℕ → List Item → ℕ
turns_together nodes items = sum_by (turn_count nodes) items

-- the item names a node in range
abbrev pub HasNode : ℕ → Item → Type 0
HasNode nodes (Turn node count) = node.0 < nodes
HasNode nodes (Round count) = Unit {0}

-- what a schedule of a network with so many nodes keeps: its nodes are in range, and its turns are not too many
pub record IsScheduleFor (nodes : ℕ) (items : List Item) : Type 0 where
  pub nodes_there : All (HasNode nodes) items
  pub few : turns_together nodes items ≤ MAX_TURNS
