use Rattle.std.proofs.Common.{◌≢◌, arith}
use Rattle.rl_words.proofs.MailLemmas.{no_letter}
use Rattle.rl_words.proofs.Options.{IfNone-from}
use Rattle.rl_words.proofs.mail.mail_of.Goals as goal

pub returns-in_err-letter-clause-none : goal.returns-in_err-letter-clause-none
returns-in_err-letter-clause-none c =
    let some : c.args.payload ≢ 0 = omega arith in
    IfNone-from _ _ (no_letter c.args.payload some c.in_err-letter.ensures.none)

pub returns-in_err-letter-clause-back : goal.returns-in_err-letter-clause-back
returns-in_err-letter-clause-back c v fits e =
    let some : c.args.payload ≢ 0 = omega arith in
    absurd (no_letter c.args.payload some c.in_err-letter.ensures.none v fits e)
