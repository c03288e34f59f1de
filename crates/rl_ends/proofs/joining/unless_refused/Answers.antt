use Rattle.std.proofs.Common.{◌≡◌, Result, Ok, Err, refl, sym, subst}
use Rattle.std.specs.Prelude.{IfErr}
use Rattle.std.specs.Result.{IsErrAnd}
use Rattle.rl_ends.specs.EndRefusals.{IsKept, IsRefusal}
use Rattle.rl_ends.specs.declared.ends_draft.EndsDraft.{EndsDraft}
use Rattle.rl_ends.specs.declared.refusal.EndRefusal.{EndRefusal}
use Rattle.rl_ends.proofs.Answered.{AreKeptBelow, below_21, kept_more, unbroken, first_refusal}
use Rattle.rl_ends.proofs.joining.unless_refused.Goals as goal

below_22 : (d : EndsDraft) → IsKept d 21 → AreKeptBelow d 22
below_22 d a = kept_more d 21 22 refl (below_21 d) a

below_23 : (d : EndsDraft) → IsKept d 21 → IsKept d 22 → AreKeptBelow d 23
below_23 d a b = kept_more d 22 23 refl (below_22 d a) b

below_24 : (d : EndsDraft) → IsKept d 21 → IsKept d 22 → IsKept d 23 → AreKeptBelow d 24
below_24 d a b c = kept_more d 23 24 refl (below_23 d a b) c

below_25 : (d : EndsDraft) → IsKept d 21 → IsKept d 22 → IsKept d 23 → IsKept d 24 → AreKeptBelow d 25
below_25 d a b c e = kept_more d 24 25 refl (below_24 d a b c) e

-- a refusal that is handed on
passed : {T : Type 0} (d : EndsDraft) (r : Result T EndRefusal) (e : EndRefusal) → IsErrAnd r (λ o. o ≡ e) → IsRefusal d e → IfErr r (IsRefusal d)
passed d (Ok x) e is h = absurd is
passed d (Err o) e is h = subst (IsRefusal d) (sym is) h

pub returns-in_err-arms-clause-refused : goal.returns-in_err-arms-clause-refused
returns-in_err-arms-clause-refused c =
    let d = c.args.draft.now in
    let e = c.in_err-arms.field-0.0 in
    passed d c.from_residual-in_err-arms.result e c.from_residual-in_err-arms.ensures.1
    (first_refusal d 22 e (below_22 d c.in_ok-check_texts.ensures.kept) c.in_err-arms.ensures.refused)

pub returns-in_err-check_arms-clause-refused : goal.returns-in_err-check_arms-clause-refused
returns-in_err-check_arms-clause-refused c =
    let d = c.args.draft.now in
    let e = c.in_err-check_arms.field-0.0 in
    passed d c.from_residual-in_err-check_arms.result e c.from_residual-in_err-check_arms.ensures.1
    (first_refusal d 23 e (below_23 d c.in_ok-check_texts.ensures.kept c.in_ok-arms.ensures.kept) c.in_err-check_arms.ensures.refused)

pub returns-in_err-table-clause-refused : goal.returns-in_err-table-clause-refused
returns-in_err-table-clause-refused c =
    let d = c.args.draft.now in
    let e = c.in_err-table.field-0.0 in
    passed d c.from_residual-in_err-table.result e c.from_residual-in_err-table.ensures.1
    (first_refusal d 24 e (below_24 d c.in_ok-check_texts.ensures.kept c.in_ok-arms.ensures.kept c.in_ok-check_arms.ensures.kept) c.in_err-table.ensures.refused)

pub returns-in_err-check_free_arms-clause-refused : goal.returns-in_err-check_free_arms-clause-refused
returns-in_err-check_free_arms-clause-refused c =
    let d = c.args.draft.now in
    let e = c.in_err-check_free_arms.field-0.0 in
    passed d c.from_residual-in_err-check_free_arms.result e c.from_residual-in_err-check_free_arms.ensures.1
    (first_refusal d 25 e
    (below_25 d c.in_ok-check_texts.ensures.kept c.in_ok-arms.ensures.kept c.in_ok-check_arms.ensures.kept c.in_ok-table.ensures.kept)
    c.in_err-check_free_arms.ensures.refused)

pub returns-clause-unbroken : goal.returns-clause-unbroken
returns-clause-unbroken c =
    let d = c.args.draft.now in
    unbroken d (kept_more d 25 26 refl
    (below_25 d c.in_ok-check_texts.ensures.kept c.in_ok-arms.ensures.kept c.in_ok-check_arms.ensures.kept c.in_ok-table.ensures.kept)
    c.in_ok-check_free_arms.ensures.kept)
