-- The ten moves: their guards, numbered in the order in which they are tested, and their changes.
use Rattle.std.specs.Prelude.{◌≡◌, ℕ, ◌+◌, ◌<◌, ◌≢◌, ◌==◌, Bool, true, false, not, ◌&&◌, ◌||◌, ◌⊎◌, if◌then◌else◌, IsTrue, slice_get}
use Rattle.std.specs.Option.{option_map_or}
use Rattle.rl_model.specs.declared.moves.Move.{Move}
use Rattle.rl_model.specs.declared.moves.Move.TheVariants.{Reserve, Release, Lock, Unlock, Throw, Settle, Enter, Leave, Refuse, Bar}
use Rattle.rl_model.specs.declared.moves.Points.TheVariants as points
use Rattle.rl_model.specs.declared.network.Segment.{Segment}
use Rattle.rl_model.specs.declared.network.NetworkPlan.{NetworkPlan}
use Rattle.rl_model.specs.Network.{IsSegmentOf, IsBoxOf, IsTrainOf, has_end, connects, can_connect, steps_of, IsStep}
use Rattle.rl_model.specs.World.{World, points_at, points_connect}

-- the guards of a move in the order in which they are tested, each with its number
pub data Guards : Type 1 where
  done : Guards
  guard : (number : ℕ) → (holds : Type 0) → Guards → Guards

-- every guard holds
abbrev pub AllHold : Guards → Type 0
AllHold done = Unit {0}
AllHold (guard number holds rest) = holds × AllHold rest

-- the guard of that number fails, and those before it hold
abbrev pub FirstFails : ℕ → Guards → Type 0
FirstFails n done = ⊥
FirstFails n (guard number holds rest) = ((n ≡ number) × (holds → ⊥)) ⊎ (holds × FirstFails n rest)

-- train t holds segment s at both its ends
abbrev pub holds_ends : World → NetworkPlan → ℕ → ℕ → Bool
holds_ends w net t s = option_map_or (λ (g : Segment). w.holds t s g.low.at.0 && w.holds t s g.high.at.0)
    (slice_get net.segments s) false

-- nobody holds segment s at box b
abbrev pub IsFree : World → ℕ → ℕ → Type 0
IsFree w s b = (u : ℕ) → w.holds u s b ≡ false

-- box b has no lock
abbrev pub IsUnlocked : World → ℕ → Type 0
IsUnlocked w b = (u from to : ℕ) → w.locked b u from to ≡ false

-- box b has a lock
abbrev pub HasLock : World → ℕ → Type 0
HasLock w b = (u : ℕ) × (from : ℕ) × (to : ℕ) × IsTrue (w.locked b u from to)

-- the lock at box b is train t's
abbrev pub HasLockOf : World → ℕ → ℕ → Type 0
HasLockOf w b t = (from : ℕ) × (to : ℕ) × IsTrue (w.locked b t from to)

-- every locked path at box b passes the test
abbrev pub EachLockedPath : World → ℕ → (ℕ → ℕ → Bool) → Bool → Type 0
EachLockedPath w b test answer = (u from to : ℕ) → w.locked b u from to ≡ true → test from to ≡ answer

-- train t isn't across box b
abbrev pub IsNotAcross : World → ℕ → ℕ → Type 0
IsNotAcross w t b = (from to : ℕ) → w.across t b from to ≡ false

-- the guards of each move
abbrev pub guards : NetworkPlan → World → Move → Guards
guards net w (Reserve t s b) =
    guard 1 (IsTrue (has_end net s.0 b.0))
    (guard 2 (IsFree w s.0 b.0) done)
guards net w (Release t s b) =
    guard 3 (IsTrue (has_end net s.0 b.0))
    (guard 4 (IsTrue (w.holds t.0 s.0 b.0))
    (guard 5 (w.occupies t.0 s.0 ≡ false) done))
guards net w (Lock t b s s2) =
    guard 6 ((s.0 ≢ s2.0) × IsTrue (has_end net s.0 b.0) × IsTrue (has_end net s2.0 b.0))
    (guard 7 (IsUnlocked w b.0)
    (guard 8 (IsTrue (w.holds t.0 s.0 b.0) × IsTrue (w.holds t.0 s2.0 b.0))
    (guard 9 (IsTrue (can_connect net b.0 s.0 s2.0)) done)))
guards net w (Unlock t b) =
    guard 10 (HasLockOf w b.0 t.0)
    (guard 11 (IsNotAcross w t.0 b.0) done)
guards net w (Throw b) =
    guard 12 (HasLock w b.0 × (w.points b.0 ≢ points.Moving))
    (guard 13 (EachLockedPath w b.0 (λ from to. points_connect net b.0 from to (w.points b.0)) false) done)
guards net w (Settle b side) =
    guard 14 (HasLock w b.0 × (w.points b.0 ≡ points.Moving))
    (guard 15 (EachLockedPath w b.0 (λ from to. connects net b.0 from to side) true) done)
guards net w (Enter t b s s2) =
    guard 16 ((w.made t.0 < steps_of net t.0) × IsStep net t.0 (w.made t.0) s.0 b.0 s2.0)
    (guard 17 (IsTrue (w.occupies t.0 s.0) × ((box : ℕ) → IsNotAcross w t.0 box))
    (guard 18 (IsTrue (holds_ends w net t.0 s2.0))
    (guard 19 (IsTrue (w.locked b.0 t.0 s.0 s2.0))
    (guard 20 (IsTrue (points_connect net b.0 s.0 s2.0 (w.points b.0))) done))))
guards net w (Leave t s) =
    guard 21 ((b : ℕ) × (to : ℕ) × IsTrue (w.across t.0 b s.0 to)) done
guards net w (Refuse t s b u) =
    guard 22 (IsTrue (has_end net s.0 b.0))
    (guard 23 ((u.0 ≢ t.0) × IsTrue (w.holds u.0 s.0 b.0)) done)
guards net w (Bar t b u) =
    guard 24 ((u.0 ≢ t.0) × HasLockOf w b.0 u.0) done

-- the world after a move. What a move doesn't name stays
abbrev pub after : World → Move → World
after w (Reserve t s b) = record w { holds = λ x y z. w.holds x y z || (x == t.0 && y == s.0 && z == b.0) }
after w (Release t s b) = record w { holds = λ x y z. w.holds x y z && not (x == t.0 && y == s.0 && z == b.0) }
after w (Lock t b s s2) =
    record w { locked = λ x y f g. w.locked x y f g || (x == b.0 && y == t.0 && f == s.0 && g == s2.0) }
after w (Unlock t b) = record w { locked = λ x y f g. w.locked x y f g && not (x == b.0) }
after w (Throw b) = record w { points = λ x. if x == b.0 then points.Moving else w.points x }
after w (Settle b side) = record w { points = λ x. if x == b.0 then points_at side else w.points x }
after w (Enter t b s s2) =
    record w {
      occupies = λ x y. w.occupies x y || (x == t.0 && y == s2.0);
      across = λ x z f g. w.across x z f g || (x == t.0 && z == b.0 && f == s.0 && g == s2.0);
    }
after w (Leave t s) =
    record w {
      occupies = λ x y. w.occupies x y && not (x == t.0 && y == s.0);
      across = λ x z f g. w.across x z f g && not (x == t.0);
      made = λ x. if x == t.0 then w.made x + 1 else w.made x;
    }
after w _ = w

-- the trains, segments and boxes that a move names are the network's
abbrev pub IsMoveOf : NetworkPlan → Move → Type 0
IsMoveOf net (Reserve t s b) = IsTrainOf net t × IsSegmentOf net s × IsBoxOf net b
IsMoveOf net (Release t s b) = IsTrainOf net t × IsSegmentOf net s × IsBoxOf net b
IsMoveOf net (Lock t b s s2) = IsTrainOf net t × IsBoxOf net b × IsSegmentOf net s × IsSegmentOf net s2
IsMoveOf net (Unlock t b) = IsTrainOf net t × IsBoxOf net b
IsMoveOf net (Throw b) = IsBoxOf net b
IsMoveOf net (Settle b side) = IsBoxOf net b
IsMoveOf net (Enter t b s s2) = IsTrainOf net t × IsBoxOf net b × IsSegmentOf net s × IsSegmentOf net s2
IsMoveOf net (Leave t s) = IsTrainOf net t × IsSegmentOf net s
IsMoveOf net (Refuse t s b u) = IsTrainOf net t × IsSegmentOf net s × IsBoxOf net b × IsTrainOf net u
IsMoveOf net (Bar t b u) = IsTrainOf net t × IsBoxOf net b × IsTrainOf net u
