use Rattle.rl_words.specs.Mail.{FitsMail, packed_mail}
use Rattle.rl_words.specs.Readings.{read_mail}
use Rattle.rl_words.proofs.ReadingLemmas.{read_mail-packed, read_mail_only, reads}
use Rattle.rl_words.proofs.mail.MailWord.unpack.Goals as goal

pub returns-clause-read : goal.returns-clause-read
returns-clause-read c = reads FitsMail packed_mail read_mail c.args.payload _ read_mail-packed
    (read_mail_only c.args.payload) c.mail_of.ensures.some c.mail_of.ensures.none
