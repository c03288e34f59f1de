-- The lines of a text, and how they are given one after another.
use Rattle.std.specs.Prelude.{ℕ, ◌==◌, Bool, true, false, List, [], ◌∷◌, ◌++◌, length, if◌then◌else◌}
use Rattle.std.specs.List.{slice_split}
use Rattle.rl_base.specs.declared.limits.TheConstants.{MAX_REPORT_BYTES}

-- how many bytes a text may have: the longest of all is a report
abbrev pub longest_text : ℕ
longest_text = MAX_REPORT_BYTES

-- a line without its LF, and whether an LF ended it
pub record Line : Type 0 where
  pub text : List ℕ
  pub whole : Bool

-- each part but the last is a line that an LF ended; the last part is a line only where it has bytes
abbrev pub lines_of_parts : List (List ℕ) → List Line
lines_of_parts [] = []
lines_of_parts (last ∷ []) = if length last == 0 then [] else record { text = last; whole = false } ∷ []
lines_of_parts (part ∷ next ∷ parts) = record { text = part; whole = true } ∷ lines_of_parts (next ∷ parts)

-- the lines of a text, in order
abbrev pub lines_of : List ℕ → List Line
lines_of text = lines_of_parts (slice_split (λ b. b == 10) text)

-- the bytes of a line in its text
abbrev pub bytes_of : Line → List ℕ
bytes_of line = if line.whole then line.text ++ 10 ∷ [] else line.text

-- how many lines were given, and those that are left
pub record Reading : Type 0 where
  pub given : ℕ
  pub left : List Line
