use Rattle.rl_syntax.proofs.Meant.{meaning, exact, names-from_answer}
use Rattle.rl_syntax.proofs.reading.read_draft.Goals as goal

pub returns-clause-meaning : goal.returns-clause-meaning
returns-clause-meaning c = meaning c.args.text.now c.answer_of.result c.answer_of.ensures.answer

pub returns-clause-exact : goal.returns-clause-exact
returns-clause-exact c = λ other. exact c.args.text.now c.answer_of.result other c.answer_of.ensures.answer

pub returns-clause-names : goal.returns-clause-names
returns-clause-names c = names-from_answer c.args.text.now c.answer_of.result c.answer_of.ensures.answer
