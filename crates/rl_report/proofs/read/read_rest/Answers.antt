use Rattle.std.proofs.Common.{refl, sym, subst}
use Rattle.std.proofs.lemmas.Result.{err_from_is_err_and}
use Rattle.rl_text.specs.Lines.{Reading}
use Rattle.rl_report.specs.Reading.{HasNoMove}
use Rattle.rl_report.proofs.read.read_rest.Goals as goal

pub returns-in_err-outcomes-clause-err : goal.returns-in_err-outcomes-clause-err
returns-in_err-outcomes-clause-err c =
    let p = err_from_is_err_and c.from_residual.result c.from_residual.ensures.1 in
    rw (p.1, p.2) (λ text read. c.in_err-outcomes.ensures.err text _ read refl)

pub returns-in-Ok-clause-ok : goal.returns-in-Ok-clause-ok
returns-in-Ok-clause-ok c = λ text read.
    c.in-Ok.ensures.ok text (record { tries = c.args.tries; moves = c.args.moves; outcomes = c.in_ok-outcomes.outcomes })
    (c.in_ok-outcomes.ensures.ok text _ read refl) c.in_ok-outcomes.ensures.all

pub returns-in-Err-clause-err : goal.returns-in-Err-clause-err
returns-in-Err-clause-err c = λ text read no_move.
    c.in-Err.ensures.err text (record { tries = c.args.tries; moves = c.args.moves; outcomes = c.in_ok-outcomes.outcomes })
    (c.in_ok-outcomes.ensures.ok text _ read refl) c.in_ok-outcomes.ensures.all
    (λ e. subst (λ (r : Reading). HasNoMove c.args.net.now r.left) (sym (c.in_ok-outcomes.ensures.none e)) no_move)
