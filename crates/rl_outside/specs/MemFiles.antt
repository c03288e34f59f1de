-- Files in memory, and how a fetch of one ends.
use Rattle.std.specs.Prelude.{ℕ, nat_le, List, length, find, Option, Some, None, option_map, Result, Ok, Err, if◌then◌else◌}
use Rattle.std.specs.Str.{bytes_eq}
use Rattle.rl_outside.specs.Numbering.{fails_at}
use Rattle.rl_outside.specs.declared.files.Fetch.{Fetch}
use Rattle.rl_outside.specs.declared.files.Fetch.TheVariants.{Failed, TooLong}
use Rattle.rl_outside.specs.declared.mem_files.StoredFile.{StoredFile}

-- files in memory: the files in the order in which their names came, the numbers of the fetches that
-- fail, the number of the next fetch, and the names whose fetch failed, oldest first
pub record MemFilesState : Type 0 where
  pub files : List StoredFile
  pub fails : List ℕ
  pub next : ℕ
  pub failed : List (List ℕ)

-- the bytes under a name, where it is there
abbrev pub bytes_under : List StoredFile → List ℕ → Option (List ℕ)
bytes_under files name = option_map (λ f. f.bytes) (find (λ f. bytes_eq f.name name) files)

-- how a read of at most `limit` bytes ends, where these bytes or none are there
abbrev pub read_within : ℕ → Option (List ℕ) → Result (List ℕ) Fetch
read_within limit None = Err Failed
read_within limit (Some bytes) = if nat_le (length bytes) limit then Ok bytes else Err TooLong

-- how the next fetch ends where memory is left: a failing number comes before all else
abbrev pub answer_of : MemFilesState → List ℕ → ℕ → Result (List ℕ) Fetch
answer_of files name limit =
    if fails_at files.fails files.next then Err Failed else read_within limit (bytes_under files.files name)
