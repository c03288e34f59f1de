-- A lock word without a path.
use Rattle.std.proofs.Common.{◌≢◌, ℕ, ◌+◌, ◌%◌, arith}
use Rattle.rl_base.specs.declared.kind.Side.TheVariants.{Left, Right}
use Rattle.rl_words.specs.declared.lock.LockWord.{LockWord}
use Rattle.rl_words.specs.declared.lock.LockWord.TheVariants.{Free, Asked, Moving, Moved, Locked}
use Rattle.rl_words.specs.declared.lock.Path.{Path}
use Rattle.rl_words.specs.Lock.{FitsPath, FitsLock, packed_path, packed_lock}

-- a payload with another tag than 0 and with no path above it is no lock word
pub no_path : (n : ℕ) → n % 8 ≢ 0 → ((p : Path) → FitsPath p → n % 8 + packed_path p ≢ n) → (v : LockWord) → FitsLock v → packed_lock v ≢ n
no_path n tag none (Free Left) fits e = tag (omega arith)
no_path n tag none (Free Right) fits e = tag (omega arith)
no_path n tag none (Asked p) fits e = none p fits (omega arith)
no_path n tag none (Moving p) fits e = none p fits (omega arith)
no_path n tag none (Moved p) fits e = none p fits (omega arith)
no_path n tag none (Locked p) fits e = none p fits (omega arith)
