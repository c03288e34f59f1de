-- The lock word of a box: what fits it, its bits, and its packing.
use Rattle.std.specs.Prelude.{◌≢◌, ℕ, ◌+◌, ◌*◌, ◌^◌, ◌<◌}
use Rattle.rl_base.specs.declared.limits.TheConstants.{MAX_TRAINS}
use Rattle.rl_base.specs.declared.kind.Side.{Side}
use Rattle.rl_base.specs.declared.kind.Side.TheVariants.{Left, Right}
use Rattle.rl_words.specs.declared.lock.LockWord.{LockWord}
use Rattle.rl_words.specs.declared.lock.LockWord.TheVariants.{Free, Asked, Moving, Moved, Locked}
use Rattle.rl_words.specs.declared.lock.Path.{Path}

-- a train of a network within its limits, from one of four arms to another
pub record FitsPath (p : Path) : Type 0 where
  pub train : p.train.0 < MAX_TRAINS
  pub x : p.x.0 < 4
  pub y : p.y.0 < 4
  pub apart : p.x.0 ≢ p.y.0

abbrev pub FitsLock : LockWord → Type 0
FitsLock (Free side) = Unit {0}
FitsLock (Asked p) = FitsPath p
FitsLock (Moving p) = FitsPath p
FitsLock (Moved p) = FitsPath p
FitsLock (Locked p) = FitsPath p

-- 0 for left, 1 for right
abbrev pub side_code : Side → ℕ
side_code Left = 0
side_code Right = 1

-- the train in bits 4 to 8, the arms in bits 9 and 10 and in bits 11 and 12
abbrev pub packed_path : Path → ℕ
packed_path p = p.train.0 * 2 ^ 4 + p.x.0 * 2 ^ 9 + p.y.0 * 2 ^ 11

-- the tag in bits 0 to 2, and then the side in bit 3 or the path
abbrev pub packed_lock : LockWord → ℕ
packed_lock (Free side) = side_code side * 2 ^ 3
packed_lock (Asked p) = 1 + packed_path p
packed_lock (Moving p) = 2 + packed_path p
packed_lock (Moved p) = 3 + packed_path p
packed_lock (Locked p) = 4 + packed_path p
