use Rattle.std.proofs.Common.{List, take, refl, sym, subst, arith}
use Rattle.std.proofs.lemmas.List.{length-take-le}
use Rattle.rl_model.specs.declared.report.Outcome.{Outcome}
use Rattle.rl_audit.specs.Judging.{HasJudgedTrains}
use Rattle.rl_audit.proofs.Judging.{no_trains_yet, take_next}
use Rattle.rl_audit.proofs.reports.judge_outcomes.Goals as goal

pub loop-k-init : goal.loop-k-init
loop-k-init c = no_trains_yet c.args.net.now c.args.report.now.tries c.args.report.now.moves c.args.judge.now c.requires.moves

pub loop-k-preserved : goal.loop-k-preserved
loop-k-preserved c =
    let net = c.args.net.now in
    let report = c.args.report.now in
    let all = c.requires.of.trains in
    let front = length-take-le c.loop-k.k report.outcomes (omega arith) in
    subst (λ (os : List Outcome). HasJudgedTrains net (record report { outcomes = os }) c.take_outcome.new.self)
    (sym (take_next report.outcomes c.loop-k.k c.at-o.result.now c.at-o.ensures.there))
    (c.take_outcome.ensures.judged (record report { outcomes = take c.loop-k.k report.outcomes }) refl front c.loop-k.invariant)
