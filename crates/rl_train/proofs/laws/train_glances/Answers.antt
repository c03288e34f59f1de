use Rattle.rl_train.proofs.Glances.{no_step}
use Rattle.rl_train.proofs.laws.train_glances.Goals as goal

pub returns : goal.returns
returns c = no_step c.letters.ensures.same c.words.ensures.only
