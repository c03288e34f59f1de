-- The first of the lines of a text, and what follows it.
use Rattle.std.proofs.Common.{◌≡◌, ◌==◌, ℕ, suc, ◌+◌, ◌<◌, ◌≤◌, Bool, true, false, ltb, List, [], ◌∷◌, length, take, drop, ◌++◌, append_assoc, append-nil, refl, ap, inl, inr, ◌∙◌, arith}
use Rattle.std.specs.List.{position_or_len, flat_map, join_with_byte, slice_split, before_first, after_first}
use Rattle.std.proofs.lemmas.Bool.Decides.{nat_tests, leb_tells}
use Rattle.std.proofs.lemmas.Grind.{common_steps}
use Rattle.std.proofs.lemmas.List.Splits.{slice_split_first, slice_split_none, length-slice_split, join_with_byte-slice_split}
use Rattle.std.proofs.lemmas.List.Sums.{fails_before_first}
use Rattle.rl_text.specs.Lines.{bytes_of, lines_of_parts, lines_of}

-- a byte is an LF
abbrev is_lf : ℕ → Bool
is_lf b = b == 10

-- a part that another one follows is a whole line
lines_of_parts-cons : (part : List ℕ) (parts : List (List ℕ)) → 0 < length parts
    → lines_of_parts (part ∷ parts) ≡ record { text = part; whole = true } ∷ lines_of_parts parts
lines_of_parts-cons part [] h = absurd (omega arith)
lines_of_parts-cons part (next ∷ parts) h = refl

-- bytes with no LF are one line that isn't whole
lines_of_parts-last : (text : List ℕ) → 0 < length text → lines_of_parts (text ∷ []) ≡ record { text = text; whole = false } ∷ []
lines_of_parts-last text h = grind (arith, nat_tests)

-- a text with an LF begins with a whole line
lines_of_whole : (text : List ℕ) → position_or_len is_lf text < length text
    → lines_of text ≡ record { text = before_first is_lf text; whole = true } ∷ lines_of (after_first is_lf text)
lines_of_whole text h =
    ap lines_of_parts (slice_split_first is_lf text 0 h)
    ∙ lines_of_parts-cons (before_first is_lf text) (slice_split is_lf (after_first is_lf text))
    (omega (arith, length-slice_split is_lf (after_first is_lf text)))

-- a text without one is one line, if it has bytes
lines_of_cut : (text : List ℕ) → 0 < length text → length text ≤ position_or_len is_lf text → lines_of text ≡ record { text = text; whole = false } ∷ []
lines_of_cut text some h =
    ap lines_of_parts (slice_split_none is_lf text (λ k d l. fails_before_first is_lf text k d (omega arith))) ∙ lines_of_parts-last text some

-- the first line ends at the first LF, or with the text
pub lines_of-first : (text : List ℕ) (end : ℕ) → 0 < length text → end ≡ position_or_len is_lf text
    → lines_of text ≡ record { text = take end text; whole = ltb end (length text) } ∷ lines_of (drop (end + 1) text)
lines_of-first text end some e =
    elim (leb_tells (suc end) (length text)) [
      | inl h ↦ let whole : ltb end (length text) ≡ true = h.0 in rw (whole, e) (lines_of_whole text (omega arith))
      | inr h ↦ let cut : ltb end (length text) ≡ false = h.0 in
          let all : take end text ≡ text = grind (arith, common_steps) in
          let none : drop (end + 1) text ≡ [] = grind (arith, common_steps) in
          rw (cut, all, none) (lines_of_cut text some (omega arith))
    ]

-- the last part is a line only where it has bytes
flat_map-last : (last : List ℕ) → flat_map bytes_of (lines_of_parts (last ∷ [])) ≡ last
flat_map-last [] = refl
flat_map-last (b ∷ bs) = ap (flat_map bytes_of) (lines_of_parts-last (b ∷ bs) (omega arith)) ∙ append-nil (b ∷ bs)

-- the lines, put together, are the parts with an LF between each two
flat_map-lines_of_parts : (parts : List (List ℕ)) → flat_map bytes_of (lines_of_parts parts) ≡ join_with_byte 10 parts
flat_map-lines_of_parts [] = refl
flat_map-lines_of_parts (last ∷ []) = flat_map-last last
flat_map-lines_of_parts (part ∷ next ∷ parts) = rw append_assoc (ap (λ rest. part ++ (10 ∷ rest)) (flat_map-lines_of_parts (next ∷ parts)))

-- the lines of a text, put together, are the text
pub flat_map-lines_of : (text : List ℕ) → flat_map bytes_of (lines_of text) ≡ text
flat_map-lines_of text = flat_map-lines_of_parts (slice_split is_lf text) ∙ join_with_byte-slice_split 10 text
