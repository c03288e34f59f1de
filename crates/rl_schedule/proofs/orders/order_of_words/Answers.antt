use Rattle.std.proofs.Common.{◌∷◌, ap, ◌∙◌}
use Rattle.rl_schedule.specs.Given.{words_in}
use Rattle.rl_schedule.proofs.WordsOf.{too_many_words}
use Rattle.rl_schedule.proofs.orders.order_of_words.Goals as goal

pub returns-in-Some-behind : goal.returns-in-Some-behind
returns-in-Some-behind c =
    too_many_words c.args.text.now c.first_word.result.0.now c.first_word-2.result.0.now c.first_word-in-Some.result.0.now c.in-Some-behind.field-0.now
    (words_in c.first_word.result.1) (words_in c.first_word-2.result.1) c.first_word.ensures
    (ap words_in c.in_ok-behind.was ∙ c.first_word-2.ensures)
    (ap words_in c.in-Some.is ∙ c.first_word-in-Some.ensures ∙ ap (λ o. c.first_word-in-Some.result.0.now ∷ words_in o) c.in-Some-behind.is)
