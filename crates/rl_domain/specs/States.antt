-- A train's standing and a box's state, each read by itself.
use Rattle.std.specs.Prelude.{ℕ, ◌==◌, Bool, false, ◌&&◌, ◌||◌, Option, None, is_some, if◌then◌else◌, List, [], ◌∷◌}
use Rattle.std.specs.List.{list_any}
use Rattle.std.specs.Option.{option_map_or}
use Rattle.rl_base.specs.declared.ids.TrainId.{TrainId}
use Rattle.rl_domain.specs.declared.states.PathLock.{PathLock}
use Rattle.rl_domain.specs.declared.states.BoxState.{BoxState}
use Rattle.rl_domain.specs.declared.states.Passage.{Passage}
use Rattle.rl_domain.specs.declared.states.Standing.{Standing}

-- the train is train t
abbrev pub is_train : ℕ → Option TrainId → Bool
is_train t holder = option_map_or (λ (u : TrainId). t == u.0) holder false

-- the lock is train t's, from one segment to the other
abbrev pub is_lock : ℕ → ℕ → ℕ → Option PathLock → Bool
is_lock t from to lock = option_map_or (λ (l : PathLock). t == l.t.0 && from == l.s.0 && to == l.s2.0) lock false

-- the lock is train t's
abbrev pub is_lock_of : ℕ → Option PathLock → Bool
is_lock_of t lock = option_map_or (λ (l : PathLock). t == l.t.0) lock false

-- the holder of the segment at arm x
abbrev pub holder_at : BoxState → ℕ → Option TrainId
holder_at state x =
    if x == 0 then state.hold0
    else (if x == 1 then state.hold1 else (if x == 2 then state.hold2 else (if x == 3 then state.hold3 else None)))

-- the state with another holder of the segment at arm x
abbrev pub with_holder : BoxState → ℕ → Option TrainId → BoxState
with_holder state x holder =
    record state {
      hold0 = if x == 0 then holder else state.hold0;
      hold1 = if x == 1 then holder else state.hold1;
      hold2 = if x == 2 then holder else state.hold2;
      hold3 = if x == 3 then holder else state.hold3;
    }

-- a train that stands so occupies segment s: its tail is there, or its head is
abbrev pub stands_on : ℕ → Standing → Bool
stands_on s standing = s == standing.on.0 || option_map_or (λ (p : Passage). s == p.to.0) standing.across false

-- a train that stands so is across box b, from one segment to the other
abbrev pub stands_across : ℕ → ℕ → ℕ → Standing → Bool
stands_across b from to standing =
    option_map_or (λ (p : Passage). b == p.b.0 && from == standing.on.0 && to == p.to.0) standing.across false

-- a train that stands so is across box b
abbrev pub is_across : ℕ → Standing → Bool
is_across b standing = option_map_or (λ (p : Passage). b == p.b.0) standing.across false

-- a train that stands so is across a box, and comes from segment s
abbrev pub comes_from : ℕ → Standing → Bool
comes_from s standing = s == standing.on.0 && is_some standing.across

-- two trains that stand so are on one segment, or across one box
abbrev pub is_on_one_segment : Standing → Standing → Bool
is_on_one_segment x y = stands_on y.on.0 x || option_map_or (λ (p : Passage). stands_on p.to.0 x) y.across false

abbrev pub is_across_one_box : Standing → Standing → Bool
is_across_one_box x y = option_map_or (λ (p : Passage). is_across p.b.0 x) y.across false

abbrev pub meets : Standing → Standing → Bool
meets x y = is_on_one_segment x y || is_across_one_box x y

-- some two of the trains meet
abbrev pub any_meet : List Standing → Bool
any_meet [] = false
any_meet (x ∷ xs) = list_any (meets x) xs || any_meet xs
