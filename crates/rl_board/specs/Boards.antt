-- The board of a world: the train on each segment, the trains that hold its ends, and three counts.
use Rattle.std.specs.Prelude.{◌≡◌, ℕ, Bool, length, slice_get, Option, None, is_some}
use Rattle.std.specs.Option.{option_map_or}
use Rattle.rl_model.specs.declared.network.NetworkPlan.{NetworkPlan}
use Rattle.rl_model.specs.declared.network.Segment.{Segment}
use Rattle.rl_model.specs.Safety.{IsKept}
use Rattle.rl_model.specs.World.{World}
use Rattle.rl_domain.specs.Rows.{world_of, Fits}
use Rattle.rl_board.specs.declared.occupancy.Board.{Board}
use Rattle.rl_board.specs.Below.{first_below, some_below, sum_below, count_below}

-- the train that occupies segment s
abbrev pub occupant : NetworkPlan → World → ℕ → Option ℕ
occupant net w s = first_below (λ t. w.occupies t s) (length net.trains)

-- the train that holds segment s at box b
abbrev pub holder : NetworkPlan → World → ℕ → ℕ → Option ℕ
holder net w s b = first_below (λ t. w.holds t s b) (length net.trains)

-- the trains that hold segment s at the end of the lower box, and at the other end
abbrev pub low_holder : NetworkPlan → World → ℕ → Option ℕ
low_holder net w s = option_map_or (λ (g : Segment). holder net w s g.low.at.0) (slice_get net.segments s) None

abbrev pub high_holder : NetworkPlan → World → ℕ → Option ℕ
high_holder net w s = option_map_or (λ (g : Segment). holder net w s g.high.at.0) (slice_get net.segments s) None

-- some train has the lock of box b, from some segment to some segment
abbrev pub has_lock : NetworkPlan → World → ℕ → Bool
has_lock net w b =
    some_below (λ t. some_below (λ from. some_below (λ to. w.locked b t from to) (length net.segments))
    (length net.segments)) (length net.trains)

-- how many segments some train occupies, how many pairs of a segment and a box some train holds, and how many boxes
-- have a lock
abbrev pub occupied_in : NetworkPlan → World → ℕ
occupied_in net w = count_below (λ s. is_some (occupant net w s)) (length net.segments)

abbrev pub reserved_in : NetworkPlan → World → ℕ
reserved_in net w =
    sum_below (λ s. count_below (λ b. is_some (holder net w s b)) (length net.boxes)) (length net.segments)

abbrev pub locked_in : NetworkPlan → World → ℕ
locked_in net w = count_below (has_lock net w) (length net.boxes)

-- the world that the board shows
abbrev pub world_on : NetworkPlan → Board → World
world_on net board = world_of net board.world

-- the board is of the network, its world has what every move keeps, and its counts are those of that world
pub record IsBoard (net : NetworkPlan) (board : Board) : Type 0 where
  pub fits : Fits net board.world
  pub kept : IsKept net (world_on net board)
  pub occupied : board.occupied ≡ occupied_in net (world_on net board)
  pub reserved : board.reserved ≡ reserved_in net (world_on net board)
  pub locked : board.locked ≡ locked_in net (world_on net board)
