-- The words of a line: a line cut at its spaces, and words each after a space.
use Rattle.std.specs.Prelude.{ℕ, ◌==◌, List, ◌∷◌, map}
use Rattle.std.specs.List.{slice_split, flat_map}
use Rattle.std.specs.Borrow.{Bor}

-- the parts of a line, cut at each space: one more than it has spaces
abbrev pub words_of : List ℕ → List (List ℕ)
words_of line = slice_split (λ b. b == 32) line

-- each word after a space
abbrev pub spaced : List (List ℕ) → List ℕ
spaced words = flat_map (λ word. 32 ∷ word) words

-- the texts that the references lend
abbrev pub texts : List (Bor (List ℕ)) → List (List ℕ)
texts words = map (λ word. word.now) words
