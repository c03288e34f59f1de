use Rattle.std.proofs.Common.{[], refl, sym, subst}
use Rattle.std.proofs.lemmas.Result.{err_from_is_err_and}
use Rattle.rl_text.specs.Lines.{Reading}
use Rattle.rl_model.specs.declared.report.Report.{Report}
use Rattle.rl_report.specs.Reading.{HasNoMove}
use Rattle.rl_audit.proofs.Judging.{no_trains_yet, verdict_from}
use Rattle.rl_audit.proofs.auditing.judge_rest.Goals as goal

pub returns-in_err-judge_trains-clause-err : goal.returns-in_err-judge_trains-clause-err
returns-in_err-judge_trains-clause-err c =
    let p = err_from_is_err_and c.from_residual.result c.from_residual.ensures.1 in
    rw (p.1, p.2) (λ text moves read no_move. c.in_err-judge_trains.ensures.err text _ read refl no_move)

pub returns-in-Ok-clause-ok : goal.returns-in-Ok-clause-ok
returns-in-Ok-clause-ok c = λ text moves read judged.
    let run = c.in_ok-judge_trains.ensures.ok in
    let start : Report = record { tries = c.args.tries; moves = moves; outcomes = [] } in
    let report : Report = record { tries = c.args.tries; moves = moves; outcomes = run.outcomes } in
    record {
      report = report;
      spelled = c.in-Ok.ensures.ok text report (run.read text start read refl) run.counted;
      verdict_is = verdict_from c.args.net.now report c.judge_trains.new.judge c.verdict.result
          (c.safe_runs.ensures.runs c.args.net.now moves c.accepted.ensures) run.counted
          (run.judged start refl refl (no_trains_yet c.args.net.now c.args.tries moves c.args.judge.now judged)) c.verdict.ensures;
    }

pub returns-in-Err-clause-err : goal.returns-in-Err-clause-err
returns-in-Err-clause-err c = λ text moves read no_move.
    let run = c.in_ok-judge_trains.ensures.ok in
    let start : Report = record { tries = c.args.tries; moves = moves; outcomes = [] } in
    let report : Report = record { tries = c.args.tries; moves = moves; outcomes = run.outcomes } in
    c.in-Err.ensures.err text report (run.read text start read refl) run.counted
    (λ e. subst (λ (r : Reading). HasNoMove c.args.net.now r.left) (sym (run.none e)) no_move)
