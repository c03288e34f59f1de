-- A text that `decimal` writes passes both tests, and its digits are worth the number.
use Rattle.std.proofs.Common.{Some, inl, inr, ap, ◌∙◌}
use Rattle.rl_text.proofs.NumberLemmas.{digits-decimal, number_of-other, number_of-digits, IsDecimalText-decimal, IfSome-from_iff, Some-from_iff}
use Rattle.rl_text.proofs.number.read_number.Goals as goal
use Rattle.rl_text.proofs.number.read_number.Goals.{then-not-are_digits-via-then-not-are_digits, then-not-are_digits-via-else-not-are_digits+then-has_leading_zero}

pub returns-then-not-are_digits-clause-complete : goal.returns-then-not-are_digits-clause-complete
returns-then-not-are_digits-clause-complete c = λ n fits e.
    let text = IsDecimalText-decimal c.args.t.now n fits e in
    elim c.then-not-are_digits.branch [
      | then-not-are_digits-via-then-not-are_digits w ↦ cc
      | then-not-are_digits-via-else-not-are_digits+then-has_leading_zero w ↦ cc
    ]

pub returns-clause-printed : goal.returns-clause-printed
returns-clause-printed c =
    IfSome-from_iff _ _ _ _ c.number_of_digits.ensures (λ h. digits-decimal c.args.t.now (cc) (cc) h.0 h.1)

pub returns-clause-complete : goal.returns-clause-complete
returns-clause-complete c = λ n fits e.
    let text = IsDecimalText-decimal c.args.t.now n fits e in
    Some-from_iff _ _ _ c.number_of_digits.ensures (text.some, rw text.value fits) ∙ ap Some text.value

pub returns-then-not-are_digits-clause-value : goal.returns-then-not-are_digits-clause-value
returns-then-not-are_digits-clause-value c =
    number_of-other c.args.t.now (elim c.then-not-are_digits.branch [
      | then-not-are_digits-via-then-not-are_digits w ↦ inl (cc)
      | then-not-are_digits-via-else-not-are_digits+then-has_leading_zero w ↦ inr (cc)
    ])

pub returns-clause-value : goal.returns-clause-value
returns-clause-value c = number_of-digits c.args.t.now _ (cc) (cc) c.number_of_digits.ensures
