use Rattle.std.proofs.Common.{◌≢◌, ◌%◌, arith}
use Rattle.rl_words.proofs.LockLemmas.{no_path}
use Rattle.rl_words.proofs.Options.{IfNone-from}
use Rattle.rl_words.proofs.lock.lock_of.Goals as goal

pub returns-in_err-path-clause-none : goal.returns-in_err-path-clause-none
returns-in_err-path-clause-none c =
    let tagged : c.args.payload % 8 ≢ 0 = omega arith in
    IfNone-from _ _ (no_path c.args.payload tagged c.in_err-path.ensures.none)

pub returns-in_err-path-clause-back : goal.returns-in_err-path-clause-back
returns-in_err-path-clause-back c v fits e =
    let tagged : c.args.payload % 8 ≢ 0 = omega arith in
    absurd (no_path c.args.payload tagged c.in_err-path.ensures.none v fits e)
