-- The first of the words of a text, and what follows it.
use Rattle.std.proofs.Common.{◌≡◌, ◌==◌, ℕ, Bool, true, false, get_or, sym, ◌+◌, ◌<◌, ◌≤◌, List, [], ◌∷◌, length, take, drop, None, refl, ap, arith}
use Rattle.std.specs.List.{position_or_len}
use Rattle.std.proofs.lemmas.Bool.Decides.{nat_tests}
use Rattle.std.proofs.lemmas.List.Splits.{slice_split_first, slice_split_none, length-slice_split}
use Rattle.std.proofs.lemmas.List.Sums.{fails_before_first, position_or_len_is}
use Rattle.rl_text.specs.Words.{words_of}
use Rattle.rl_schedule.specs.Orders.{order_of_words}

abbrev is_space : ℕ → Bool
is_space b = b == 32

-- the first place of a byte, told by what is before it and at it
pub first_byte : (byte : ℕ) (text : List ℕ) (i : ℕ) → i ≤ length text → ((k : ℕ) → k < i → get_or text k 0 ≡ byte → ⊥)
    → (i < length text → get_or text i 0 ≡ byte) → i ≡ position_or_len (λ b. b == byte) text
first_byte byte text i within none here =
    sym (position_or_len_is (λ b. b == byte) text i 0 within (λ k l. other (get_or text k 0) (none k l)) (λ l. same (get_or text i 0) (here l)))
  where
    other : (b : ℕ) → (b ≡ byte → ⊥) → (b == byte) ≡ false
    other b h = grind (arith, nat_tests)

    same : (b : ℕ) → b ≡ byte → (b == byte) ≡ true
    same b h = grind (arith, nat_tests)

pub words_of-first : (text : List ℕ) (end : ℕ) → end ≡ position_or_len is_space text → end < length text
    → words_of text ≡ take end text ∷ words_of (drop (end + 1) text)
words_of-first text end e h = rw e (slice_split_first is_space text 0 (rw (← e) h))

pub words_of-last : (text : List ℕ) (end : ℕ) → end ≡ position_or_len is_space text → length text ≤ end → words_of text ≡ text ∷ []
words_of-last text end e h = slice_split_none is_space text (λ k d l. fails_before_first is_space text k d (omega arith))

-- a text has a word, perhaps an empty one
words_of-some : (text : List ℕ) → words_of text ≡ [] → ⊥
words_of-some text e =
    let count = length-slice_split is_space text in
    let none : length (words_of text) ≡ 0 = ap length e in
    omega (arith, count, none)

-- four words and more are no order
four_words : (first second third : List ℕ) (rest : List (List ℕ)) → (rest ≡ [] → ⊥) → None ≡ order_of_words (first ∷ second ∷ third ∷ rest)
four_words first second third [] some = absurd (some refl)
four_words first second third (fourth ∷ rest) some = refl

pub too_many_words : (text first second third behind : List ℕ) (words more : List (List ℕ)) → words_of text ≡ first ∷ words → words ≡ second ∷ more
    → more ≡ third ∷ words_of behind → None ≡ order_of_words (words_of text)
too_many_words text first second third behind words more one two three =
    rw (one, two, three) (four_words first second third (words_of behind) (words_of-some behind))
