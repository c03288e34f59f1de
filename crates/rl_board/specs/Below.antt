-- Numbers below a bound: the first that passes a test, how many pass, and sums.
use Rattle.std.specs.Prelude.{ℕ, zero, suc, ◌+◌, Bool, List, [], ◌++◌, Option, Some, None, is_some, if◌then◌else◌}
use Rattle.std.specs.Option.{option_map_or}

-- the first number below n that passes
abbrev pub first_below : (ℕ → Bool) → ℕ → Option ℕ
first_below p zero = None
first_below p (suc n) = option_map_or (λ (k : ℕ). Some k) (first_below p n) (if p n then Some n else None)

-- some number below n passes
abbrev pub some_below : (ℕ → Bool) → ℕ → Bool
some_below p n = is_some (first_below p n)

-- the sum of f at the numbers below n
abbrev pub sum_below : (ℕ → ℕ) → ℕ → ℕ
sum_below f zero = 0
sum_below f (suc n) = sum_below f n + f n

-- 1 where the test passes, and 0 elsewhere
abbrev pub one_if : Bool → ℕ
one_if b = if b then 1 else 0

-- how many numbers below n pass
abbrev pub count_below : (ℕ → Bool) → ℕ → ℕ
count_below p n = sum_below (λ k. one_if (p k)) n

-- the lists of the numbers below n, joined
abbrev pub join_below : (ℕ → List ℕ) → ℕ → List ℕ
join_below f zero = []
join_below f (suc n) = join_below f n ++ f n
