-- Bit fields of a number: what some of its bits say, and the number with those bits written.
use Rattle.std.specs.Prelude.{ℕ, ◌+◌, ◌*◌, ◌/◌, ◌%◌, ◌^◌}

-- what the n bits of the number x from bit i on say
abbrev pub field : ℕ → ℕ → ℕ → ℕ
field x i n = x / 2 ^ i % 2 ^ n

-- the number x with v in the n bits from bit i on
abbrev pub with_field : ℕ → ℕ → ℕ → ℕ → ℕ
with_field x i n v = x / 2 ^ (i + n) * 2 ^ (i + n) + v * 2 ^ i + x % 2 ^ i
