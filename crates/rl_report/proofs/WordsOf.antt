-- The first of the words of a text, and what follows it.
use Rattle.std.proofs.Common.{◌≡◌, ◌==◌, ℕ, Bool, not, ◌+◌, ◌<◌, ◌≤◌, true, false, get_or, sym, List, [], ◌∷◌, length, take, drop, Option, Some, None, IsTrue, Bor, refl, ap, arith}
use Rattle.std.specs.Prelude.{is_some}
use Rattle.std.specs.List.{position_or_len}
use Rattle.std.proofs.lemmas.Bool.Decides.{nat_tests}
use Rattle.std.proofs.lemmas.List.Splits.{slice_split_first, slice_split_none, length-slice_split}
use Rattle.std.proofs.lemmas.List.Sums.{fails_before_first, position_or_len_is}
use Rattle.rl_text.specs.Words.{words_of}
use Rattle.rl_report.specs.Words.{words_in}

abbrev is_space : ℕ → Bool
is_space b = b == 32

-- the first space, told by what is before it and at it
pub first_space : (text : List ℕ) (i : ℕ) → i ≤ length text → ((k : ℕ) → k < i → get_or text k 0 ≡ 32 → ⊥) → (i < length text → get_or text i 0 ≡ 32)
    → i ≡ position_or_len is_space text
first_space text i within none here =
    sym (position_or_len_is is_space text i 0 within (λ k l. other (get_or text k 0) (none k l)) (λ l. space (get_or text i 0) (here l)))
  where
    other : (b : ℕ) → (b ≡ 32 → ⊥) → (b == 32) ≡ false
    other b h = grind (arith, nat_tests)

    space : (b : ℕ) → b ≡ 32 → (b == 32) ≡ true
    space b h = grind (arith, nat_tests)

pub words_of-first : (text : List ℕ) (end : ℕ) → end ≡ position_or_len is_space text → end < length text
    → words_of text ≡ take end text ∷ words_of (drop (end + 1) text)
words_of-first text end e h = rw e (slice_split_first is_space text 0 (rw (← e) h))

pub words_of-last : (text : List ℕ) (end : ℕ) → end ≡ position_or_len is_space text → length text ≤ end → words_of text ≡ text ∷ []
words_of-last text end e h = slice_split_none is_space text (λ k d l. fails_before_first is_space text k d (omega arith))

-- a text has a word, perhaps an empty one
words_of-some : (text : List ℕ) → words_of text ≡ [] → ⊥
words_of-some text e =
    let count = length-slice_split is_space text in
    let none : length (words_of text) ≡ 0 = ap length e in
    omega (arith, count, none)

-- no word is left exactly where nothing of the line is
pub words_in-none : (rest : Option (Bor (List ℕ))) (b : Bool) → is_some rest ≡ not b → (IsTrue b → words_in rest ≡ []) × (words_in rest ≡ [] → IsTrue b)
words_in-none None b e = (λ h. refl, λ h. grind (arith, nat_tests))
words_in-none (Some text) b e = (λ h. absurd (grind (arith, nat_tests)), λ h. absurd (words_of-some text.now h))
