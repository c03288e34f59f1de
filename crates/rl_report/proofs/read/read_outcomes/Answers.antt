use Rattle.std.proofs.Common.{◌≡◌, List, [], ◌∷◌, ◌++◌, length-append, sym, ◌∙◌, subst, arith}
use Rattle.rl_text.specs.Lines.{Reading}
use Rattle.rl_model.specs.declared.report.Outcome.{Outcome}
use Rattle.rl_report.specs.Reading.{HasNoMove}
use Rattle.rl_report.proofs.read.read_outcomes.Goals as goal

pub returns-in-Err-clause-err : goal.returns-in-Err-clause-err
returns-in-Err-clause-err c = λ text report read none no_move.
    c.in-Err.ensures.err text (record report { outcomes = c.loop-k.outcomes }) (c.loop-k.invariant.read text report read none) c.loop-k.invariant.count
    (λ e. subst (λ (r : Reading). HasNoMove c.args.net.now r.left) (sym (c.loop-k.invariant.none e)) no_move)

not_empty : (xs : List Outcome) (o : Outcome) → xs ++ o ∷ [] ≡ [] → ⊥
not_empty [] o e = cc
not_empty (x ∷ xs) o e = cc

pub loop-k-preserved : goal.loop-k-preserved
loop-k-preserved c =
    let count = length-append c.loop-k.outcomes (c.in-Ok.o ∷ []) in
    let before = c.loop-k.invariant.count in
    let pushed = c.in_ok-push-in-Ok.ensures.ok in
    record {
      read = λ text report read none.
          rw c.in_ok-push-in-Ok.ensures.ok
          (c.in-Ok.ensures.ok text (record report { outcomes = c.loop-k.outcomes }) (c.loop-k.invariant.read text report read none) c.loop-k.invariant.count);
      count = rw c.in_ok-push-in-Ok.ensures.ok (omega (arith, count, before));
      none = λ e. absurd (not_empty c.loop-k.outcomes c.in-Ok.o (sym pushed ∙ e));
    }
