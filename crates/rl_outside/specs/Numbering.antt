-- The numbers of calls, and which of them fail.
use Rattle.std.specs.Prelude.{ℕ, ◌+◌, min, ◌==◌, Bool, List}
use Rattle.std.specs.List.{list_any}
use Rattle.rl_base.specs.Numbers.{greatest_u32}

-- the number of the next call, which stays at the greatest u32
abbrev pub number_after : ℕ → ℕ
number_after number = min (number + 1) greatest_u32

-- the call of this number is one of those that fail
abbrev pub fails_at : List ℕ → ℕ → Bool
fails_at fails number = list_any (λ k. k == number) fails
