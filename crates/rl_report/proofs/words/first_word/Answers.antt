use Rattle.std.proofs.Common.{arith}
use Rattle.std.proofs.lemmas.Grind.{common_steps}
use Rattle.rl_report.proofs.WordsOf.{words_of-first, words_of-last}
use Rattle.rl_report.proofs.words.first_word.Goals as goal

pub returns-then-end-text : goal.returns-then-end-text
returns-then-end-text c =
    let first = words_of-first c.args.text.now c.word_end-end.result.0 c.word_end-end.ensures (c.if-end-text.true) in
    grind (arith, common_steps, first)

pub returns-else-end-text : goal.returns-else-end-text
returns-else-end-text c = words_of-last c.args.text.now c.word_end-end.result.0 c.word_end-end.ensures (c.if-end-text.false)
