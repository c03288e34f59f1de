use Rattle.rl_words.proofs.ReadingLemmas.{read_resv-packed, read_lock-packed, read_mail-packed, read_run-packed, read_sense-packed, read_resv_only, read_lock_only, read_mail_only, read_run_only, read_sense_only}
use Rattle.rl_words.proofs.laws.readings.Goals as goal

pub returns : goal.returns
returns c = record {
  resv = read_resv-packed;
  lock = read_lock-packed;
  mail = read_mail-packed;
  run = read_run-packed;
  sense = read_sense-packed;
  resv_only = read_resv_only;
  lock_only = read_lock_only;
  mail_only = read_mail_only;
  run_only = read_run_only;
  sense_only = read_sense_only;
}
