-- Safety: collided, derailed, guarded lists of moves, safe runs, and the facts that every move keeps.
use Rattle.std.specs.Prelude.{◌≡◌, ℕ, ◌≢◌, true, List, [], ◌∷◌, fold}
use Rattle.std.specs.List.{AllByRecursion}
use Rattle.rl_model.specs.declared.moves.Move.{Move}
use Rattle.rl_model.specs.declared.network.NetworkPlan.{NetworkPlan}
use Rattle.rl_model.specs.World.{World, start, points_connect}
use Rattle.rl_model.specs.Moves.{guards, AllHold, after, holds_ends}

-- two trains occupy one segment, or stand across one box
pub data Collided (w : World) : Type 0 where
  on_a_segment : (t u s : ℕ) → t ≢ u → w.occupies t s ≡ true → w.occupies u s ≡ true → Collided w
  across_a_box : (t u b from to from2 to2 : ℕ) → t ≢ u → w.across t b from to ≡ true → w.across u b from2 to2 ≡ true
      → Collided w

-- a train is across a box whose points don't connect its two segments
pub data Derailed (net : NetworkPlan) (w : World) : Type 0 where
  at_a_box : (t b from to : ℕ) → w.across t b from to ≡ true → (points_connect net b from to (w.points b) ≡ true → ⊥)
      → Derailed net w

pub record IsSafe (net : NetworkPlan) (w : World) : Type 0 where
  pub not_collided : Collided w → ⊥
  pub not_derailed : Derailed net w → ⊥

-- every guard of each move holds in the world that the earlier moves leave
abbrev pub GuardedFrom : NetworkPlan → World → List Move → Type 0
GuardedFrom net w [] = Unit {0}
GuardedFrom net w (m ∷ ms) = AllHold (guards net w m) × GuardedFrom net (after w m) ms

abbrev pub Guarded : NetworkPlan → List Move → Type 0
Guarded net moves = GuardedFrom net (start net) moves

-- the worlds before, between and after the moves
abbrev pub worlds_from : World → List Move → List World
worlds_from w [] = w ∷ []
worlds_from w (m ∷ ms) = w ∷ worlds_from (after w m) ms

abbrev pub worlds : NetworkPlan → List Move → List World
worlds net moves = worlds_from (start net) moves

-- the world that the moves leave
abbrev pub world_after : NetworkPlan → List Move → World
world_after net moves = fold after (start net) moves

-- guarded, and no world before, between or after the moves is collided or derailed
pub record IsSafeRun (net : NetworkPlan) (moves : List Move) : Type 0 where
  pub guarded : Guarded net moves
  pub safe : AllByRecursion (IsSafe net) (worlds net moves)

-- what every move keeps: a segment is held at a box by one train at most, a box has one lock at most, a
-- train holds what it occupies at both ends, and a train across a box has its lock for that path, which
-- the points connect
pub record IsKept (net : NetworkPlan) (w : World) : Type 0 where
  pub one_holder : (t u s b : ℕ) → w.holds t s b ≡ true → w.holds u s b ≡ true → t ≡ u
  pub one_lock : (t u b from to from2 to2 : ℕ) → w.locked b t from to ≡ true → w.locked b u from2 to2 ≡ true
      → (t ≡ u) × (from ≡ from2) × (to ≡ to2)
  pub held : (t s : ℕ) → w.occupies t s ≡ true → holds_ends w net t s ≡ true
  pub has_lock : (t b from to : ℕ) → w.across t b from to ≡ true → w.locked b t from to ≡ true
  pub connected : (t b from to : ℕ) → w.across t b from to ≡ true → points_connect net b from to (w.points b) ≡ true
