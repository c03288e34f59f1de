-- What stands of a text to which something was being appended when memory ran out.
use Rattle.std.specs.Prelude.{◌≡◌, ℕ, List, length, take}

-- the longer text begins with the text
abbrev pub IsBeginningOf : List ℕ → List ℕ → Type 0
IsBeginningOf text longer = take (length text) longer ≡ text
