-- A line is its first word, the others each after a space, and LF.
use Rattle.std.proofs.Common.{◌≡◌, ℕ, List, [], ◌∷◌, ◌++◌, sym, ap, append_assoc, append-nil}
use Rattle.std.specs.List.{join_with_byte}
use Rattle.rl_text.specs.Words.{spaced}

joined : (first : List ℕ) (others : List (List ℕ)) → join_with_byte 32 (first ∷ others) ≡ first ++ spaced others
joined first [] = sym (append-nil first)
joined first (x ∷ xs) = ap (λ rest. first ++ 32 ∷ rest) (joined x xs)

-- what is put piece by piece behind a text is the text and the line
pub line_behind : (text first : List ℕ) (others : List (List ℕ))
    → text ++ first ++ spaced others ++ 10 ∷ [] ≡ text ++ (join_with_byte 32 (first ∷ others) ++ 10 ∷ [])
line_behind text first others = rw joined (simp append_assoc)
