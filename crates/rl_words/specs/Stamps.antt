-- A shared word as its stamp and its payload.
use Rattle.std.specs.Prelude.{ℕ, ◌+◌, ◌*◌, ◌^◌}
use Rattle.rl_words.specs.Fields.{field}

-- the stamp in bits 32 to 63 of a word
abbrev pub stamp_in : ℕ → ℕ
stamp_in word = field word 32 32

-- the payload in bits 0 to 31 of a word
abbrev pub payload_in : ℕ → ℕ
payload_in word = field word 0 32

-- the word of a stamp and a payload
abbrev pub stamped : ℕ → ℕ → ℕ
stamped stamp payload = payload + stamp * 2 ^ 32
