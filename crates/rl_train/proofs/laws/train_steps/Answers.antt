use Rattle.rl_train.proofs.StepLaws.{keeps}
use Rattle.rl_train.proofs.laws.train_steps.Goals as goal

pub returns : goal.returns
returns c = keeps c.letters.ensures.same c.words.ensures.only c.words.ensures.small c.words.ensures.owned
