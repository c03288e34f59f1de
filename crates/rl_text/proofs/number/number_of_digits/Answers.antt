-- Digits are a text, and `parse` gives their number where it fits.
use Rattle.std.proofs.lemmas.Str.Parse.{parse_digits}
use Rattle.rl_text.proofs.NumberLemmas.{digits_model, IsUtf8-from_digits, SomeIff-result_ok}
use Rattle.rl_text.proofs.number.number_of_digits.Goals as goal

pub returns-in-Ok : goal.returns-in-Ok
returns-in-Ok c =
    rw c.ok.ensures.value (SomeIff-result_ok _ _ _
    (parse_digits digits_model 64 c.args.t.now _ (rw c.in-Ok.ensures.cases.0 at c.parse.ensures.value.0) c.requires))

pub returns-in-Err : goal.returns-in-Err
returns-in-Err c = λ _. c.in-Err.ensures.cases.0 (IsUtf8-from_digits _ c.requires)
