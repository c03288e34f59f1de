use Rattle.rl_words.proofs.PackingLemmas.{same_resv, same_lock, same_mail, same_run, same_sense}
use Rattle.rl_words.proofs.laws.packings.Goals as goal

pub returns : goal.returns
returns c = record {
  resv = same_resv;
  lock = same_lock;
  mail = same_mail;
  run = same_run;
  sense = same_sense;
}
