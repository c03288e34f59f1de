-- The numbers of 32 bits, and the greatest numbers of 32 and of 64 bits, at which counts stand still.
use Rattle.std.specs.Prelude.{ℕ, ◌-◌, ◌^◌, ◌<◌}

-- the number has no more than 32 bits
abbrev pub IsU32 : ℕ → Type 0
IsU32 n = n < 2 ^ 32

abbrev pub greatest_u32 : ℕ
greatest_u32 = 2 ^ 32 - 1

abbrev pub greatest_u64 : ℕ
greatest_u64 = 2 ^ 64 - 1
