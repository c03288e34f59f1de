use Rattle.rl_rule.proofs.Alone.{boxes_alone}
use Rattle.rl_rule.proofs.laws.alone_with_reservations.Goals as goal

pub returns : goal.returns
returns c = boxes_alone c.numberings.ensures.words
