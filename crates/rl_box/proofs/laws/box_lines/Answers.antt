use Rattle.rl_box.proofs.StepLaws.{step_front, step_back}
use Rattle.rl_box.proofs.laws.box_lines.Goals as goal

pub returns : goal.returns
returns c b mind kind payload new after = (
  step_front c.letters.ensures.same b mind kind payload new after,
  step_back c.letters.ensures.itself b mind kind payload new after,
)
