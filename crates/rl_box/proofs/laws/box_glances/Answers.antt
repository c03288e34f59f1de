use Rattle.rl_box.proofs.Glances.{no_step}
use Rattle.rl_box.proofs.laws.box_glances.Goals as goal

pub returns : goal.returns
returns c b mind kind payload hidden = no_step c.letters.ensures.same c.words.ensures.only b mind payload hidden kind
