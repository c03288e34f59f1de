use Rattle.std.proofs.Common.{◌≡◌, List, [], ◌∷◌, ◌++◌, length-append, sym, ◌∙◌, subst, arith}
use Rattle.rl_text.specs.Lines.{Reading}
use Rattle.rl_model.specs.declared.report.Outcome.{Outcome}
use Rattle.rl_domain.specs.Rows.{Fits}
use Rattle.rl_report.specs.Reading.{HasNoMove}
use Rattle.rl_audit.proofs.Judging.{length_of_counts}
use Rattle.rl_audit.proofs.auditing.judge_trains.Goals as goal

pub returns-in-Err-clause-err : goal.returns-in-Err-clause-err
returns-in-Err-clause-err c = λ text report read none no_move.
    let run = c.loop-k.invariant.judged in
    c.in-Err.ensures.err text (record report { outcomes = run.outcomes }) (run.read text report read none) run.counted
    (λ e. subst (λ (r : Reading). HasNoMove c.args.net.now r.left) (sym (run.none e)) no_move)

not_empty : (xs : List Outcome) (o : Outcome) → xs ++ o ∷ [] ≡ [] → ⊥
not_empty [] o e = cc
not_empty (x ∷ xs) o e = cc

pub loop-k-preserved : goal.loop-k-preserved
loop-k-preserved c =
    let run = c.loop-k.invariant.judged in
    let counted = run.counted in
    let longer = length-append run.outcomes (c.in-Ok.o ∷ []) in
    let moves = c.take_outcome.ensures.moves in
    let few = c.loop-k.invariant.few in
    record {
      judged = record {
        outcomes = run.outcomes ++ c.in-Ok.o ∷ [];
        counted = omega (arith, counted, longer);
        read = λ text report read none. c.in-Ok.ensures.ok text (record report { outcomes = run.outcomes }) (run.read text report read none) run.counted;
        judged = λ report tried none before. c.take_outcome.ensures.judged (record report { outcomes = run.outcomes }) tried run.counted
            (run.judged report tried none before);
        none = λ e. absurd (not_empty run.outcomes c.in-Ok.o e);
      };
      fits = subst (Fits c.args.net.now) (sym c.take_outcome.ensures.world) c.loop-k.invariant.fits;
      trains = length_of_counts c.take_outcome.new.self c.loop-k.judge c.take_outcome.ensures.counts ∙ c.loop-k.invariant.trains;
      few = omega (arith, moves, few);
    }
