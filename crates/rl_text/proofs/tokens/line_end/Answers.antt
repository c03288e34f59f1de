-- `memchr` gives the first place that holds an LF, and `unwrap_or` the length where there is none.
use Rattle.std.proofs.Common.{◌≡◌, ◌==◌, ℕ, Bool, true, false, List, length, Option, Some, None, unwrap_or, refl, sym, ◌∙◌, arith}
use Rattle.std.specs.List.{position_or_len}
use Rattle.std.proofs.lemmas.List.Sums.{position_or_len_is}
use Rattle.memchr.specs.Find.{IsFirstByte, is_byte}
use Rattle.rl_text.proofs.tokens.line_end.Goals as goal

fails : (b : Bool) → (b ≡ true → ⊥) → b ≡ false
fails true h = absurd (h refl)
fails false h = refl

first_place : (text : List ℕ) (r : Option ℕ) → IsFirstByte (is_byte 10) text r → unwrap_or r (length text) ≡ position_or_len (λ b. b == 10) text
first_place text None h =
    sym (position_or_len_is (λ b. b == 10) text (length text) 0 (omega arith) (λ k l. fails _ (h k (omega arith) l)) (λ l. absurd (omega arith)))
first_place text (Some i) h =
    let high = h.0.high in
    sym (position_or_len_is (λ b. b == 10) text i 0 (omega arith) (λ k l. fails _ (h.0.before k (omega arith) l)) (λ l. h.1))

pub returns : goal.returns
returns c = c.unwrap_or.ensures ∙ first_place c.args.text.now c.memchr.result c.memchr.ensures
