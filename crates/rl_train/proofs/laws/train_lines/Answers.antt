use Rattle.rl_train.proofs.Sentences.{train_front, train_back}
use Rattle.rl_train.proofs.StepLaws.{step_front, step_back, one_step}
use Rattle.rl_train.proofs.laws.train_lines.Goals as goal

pub returns : goal.returns
returns c =
    let same = c.letters.ensures.same in
    let itself = c.letters.ensures.itself in
    record {
      words = λ table mind word next after. (train_front same table mind word next after, train_back itself table mind word next after);
      payloads = λ table mind kind payload new after. (step_front same table mind kind payload new after, step_back itself table mind kind payload new after);
      one = one_step itself;
    }
