use Rattle.std.proofs.Common.{Option, Some, None, IfSome, IfNone, ℕ, List, [], ◌∷◌, ◌≡◌, ◌≢◌, ◌≤◌, ◌∙◌, sym, ap, codes, decimal}
use Rattle.std.specs.List.{join_with_byte}
use Rattle.rl_base.specs.Tries.{AreFewTries}
use Rattle.rl_base.specs.declared.limits.TheConstants.{MIN_TRIES}
use Rattle.rl_text.specs.Words.{words_of}
use Rattle.rl_report.specs.Reading.{tries_line}
use Rattle.rl_report.proofs.Joined.{joined-words_of}
use Rattle.rl_report.proofs.ReadLines.{tries_words}
use Rattle.rl_report.proofs.reader.tries_of_line.Goals as goal

some : (text : List ℕ) (words : List (List ℕ)) (o : Option ℕ) → words ≡ words_of text
    → IfSome o (λ n. (MIN_TRIES ≤ n) × AreFewTries n × (words ≡ codes "tries" ∷ decimal n ∷ []))
    → IfSome o (λ n. (MIN_TRIES ≤ n) × AreFewTries n × (text ≡ (tries_line n).text))
some text words None e h = tt
some text words (Some n) e h = (h.0, h.1, sym (joined-words_of text) ∙ ap (join_with_byte 32) (sym e ∙ h.2))

none : (text : List ℕ) (words : List (List ℕ)) (o : Option ℕ) → words ≡ words_of text
    → IfNone o ((n : ℕ) → MIN_TRIES ≤ n → AreFewTries n → words ≢ codes "tries" ∷ decimal n ∷ [])
    → IfNone o ((n : ℕ) → MIN_TRIES ≤ n → AreFewTries n → text ≢ (tries_line n).text)
none text words None e h = λ n low high is. h n low high (e ∙ ap words_of is ∙ tries_words n high)
none text words (Some n) e h = tt

pub returns-clause-some : goal.returns-clause-some
returns-clause-some c = some c.args.text.now c.new.result c.read_tries.result c.new.ensures c.read_tries.ensures.some

pub returns-clause-none : goal.returns-clause-none
returns-clause-none c = none c.args.text.now c.new.result c.read_tries.result c.new.ensures c.read_tries.ensures.none
