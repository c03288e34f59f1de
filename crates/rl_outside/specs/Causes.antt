-- When a count of faults rises, and what follows from the answer to a fetch.
use Rattle.std.specs.Prelude.{◌≡◌, ℕ, ◌+◌, ◌<◌, ◌≤◌, nat_le, min, List, [], ◌∷◌, ◌++◌, count_by, Result, Ok, Err, if◌then◌else◌}
use Rattle.std.specs.Str.{bytes_eq}
use Rattle.rl_base.specs.Numbers.{greatest_u64}
use Rattle.rl_outside.specs.declared.files.Fetch.{Fetch}
use Rattle.rl_outside.specs.declared.files.Fetch.TheVariants.{Failed, TooLong, NoMemory}

-- a name's count of faults rose
abbrev pub Rose : ℕ → ℕ → Type 0
Rose before now = before < now

-- a sink's count of faults rose, or stands at the greatest u64, where it stays
abbrev pub RoseOrFull : ℕ → ℕ → Type 0
RoseOrFull before now = min (before + 1) greatest_u64 ≤ now

-- a name's count of faults, before and after a fetch of it with this answer: it rises where the fetch failed, and
-- at no other answer
abbrev pub CountsFetch : {T : Type 0} → Result T Fetch → ℕ → ℕ → Type 0
CountsFetch (Err Failed) before now = Rose before now
CountsFetch answer before now = now ≡ before

-- what the answer to a read of std is, where so many bytes are still allowed: an error is a failed fetch, and 0
-- bytes are the end of the file
abbrev pub read_by : {E : Type 0} → ℕ → Result ℕ E → Result ℕ Fetch
read_by room (Ok n) = if nat_le n room then Ok n else Err TooLong
read_by room (Err e) = Err Failed

-- how often a name stands in a list of names
abbrev pub times_in : List (List ℕ) → List ℕ → ℕ
times_in names name = count_by (λ n. bytes_eq n name) names

-- the names whose fetch failed, after a fetch of this name ended so
abbrev pub failed_after : {T : Type 0} → Result T Fetch → List (List ℕ) → List ℕ → List (List ℕ)
failed_after (Ok bytes) names name = names
failed_after (Err Failed) names name = names ++ name ∷ []
failed_after (Err TooLong) names name = names
failed_after (Err NoMemory) names name = names
