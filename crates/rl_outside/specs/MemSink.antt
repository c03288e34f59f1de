-- A sink in memory, and what a put makes of it.
use Rattle.std.specs.Prelude.{ℕ, ◌+◌, ◌-◌, min, List, ◌++◌, length, if◌then◌else◌}
use Rattle.rl_base.specs.Numbers.{greatest_u64}
use Rattle.rl_outside.specs.Numbering.{number_after, fails_at}

-- a sink in memory: the bytes that it took, how many it can hold, how many it takes at most in one put,
-- the numbers of the puts that fail, the number of the next put, and how many puts failed
pub record MemSinkState : Type 0 where
  pub bytes : List ℕ
  pub room : ℕ
  pub piece : ℕ
  pub fails : List ℕ
  pub puts : ℕ
  pub faults : ℕ

-- how many bytes the next put takes, of a piece of this length. None is a fault
abbrev pub size_of_put : MemSinkState → ℕ → ℕ
size_of_put sink len =
    if fails_at sink.fails sink.puts then 0 else min len (min sink.piece (sink.room - length sink.bytes))

-- the sink after a put that took these bytes
abbrev pub after_put : MemSinkState → List ℕ → MemSinkState
after_put sink taken = record sink { bytes = sink.bytes ++ taken; puts = number_after sink.puts }

-- the sink's count of faults, at most the greatest u64
abbrev pub faults_of : MemSinkState → ℕ
faults_of sink = min sink.faults greatest_u64

-- the sink after a put that failed
abbrev pub after_fault : MemSinkState → MemSinkState
after_fault sink =
    record sink { puts = number_after sink.puts; faults = min (sink.faults + 1) greatest_u64 }
