-- Words that are joined by spaces are cut again at the spaces.
use Rattle.std.proofs.Common.{◌≡◌, ◌==◌, ℕ, Bool, true, false, ◌&&◌, List, [], ◌∷◌, refl, ap, ◌∙◌, lit≤, arith}
use Rattle.std.specs.List.{join_with_byte}
use Rattle.std.proofs.lemmas.Bool.Decides.{nat_tests}
use Rattle.std.proofs.lemmas.List.Splits.{slice_split_at, slice_split_none, join_with_byte-slice_split}
use Rattle.rl_text.specs.Words.{words_of}
use Rattle.rl_report.proofs.Plain.{is_plain, are_plain, not_in_plain}

both : (a b : Bool) → (a && b) ≡ true → (a ≡ true) × (b ≡ true)
both true b h = (refl, h)
both false b h = grind (arith, nat_tests)

-- words without spaces are the words of their line
pub words_of-joined : (word : List ℕ) (words : List (List ℕ)) → are_plain (word ∷ words) ≡ true → words_of (join_with_byte 32 (word ∷ words)) ≡ word ∷ words
words_of-joined word [] h =
    let plain = both (is_plain word) true h in
    slice_split_none (λ b. b == 32) word (not_in_plain 32 word (lit≤ tt) plain.0)
words_of-joined word (next ∷ words) h =
    let plain = both (is_plain word) (are_plain (next ∷ words)) h in
    slice_split_at (λ b. b == 32) word 32 (join_with_byte 32 (next ∷ words)) (not_in_plain 32 word (lit≤ tt) plain.0) refl
    ∙ ap (λ rest. word ∷ rest) (words_of-joined next words plain.1)

-- the words of a line, joined, are the line
pub joined-words_of : (line : List ℕ) → join_with_byte 32 (words_of line) ≡ line
joined-words_of line = join_with_byte-slice_split 32 line
