use Rattle.rl_box.proofs.StepLaws.{keeps}
use Rattle.rl_box.proofs.laws.box_steps.Goals as goal

pub returns : goal.returns
returns c = keeps c.letters.ensures.same c.arms.ensures.fits c.words.ensures.only c.words.ensures.small c.words.ensures.owned
