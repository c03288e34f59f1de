-- What a loop has read of a file.
use Rattle.std.proofs.Common.{ℕ, ◌≤◌, List, length, Option}
use Rattle.std.specs.Io.KnownBytes.{Consumes}

-- what a loop has read of a file, whose known bytes were `before` and are `now`
pub record HasRead (before now : Option (List ℕ)) (bytes : List ℕ) (limit : ℕ) : Type 0 where
  pub within : length bytes ≤ limit
  pub so_far : Consumes before now bytes
