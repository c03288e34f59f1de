use Rattle.std.proofs.Common.{◌∷◌, ◌++◌, [], Some, slice_set, sym, subst}
use Rattle.rl_model.specs.declared.moves.Move.{Move}
use Rattle.rl_jam.specs.Finding.{AreLast}
use Rattle.rl_jam.proofs.Refused.{noted_refuse, noted_bar, noted_other, refuses_nobody}
use Rattle.rl_jam.proofs.refusals.note.Goals as goal

pub returns-in-Refuse : goal.returns-in-Refuse
returns-in-Refuse c = λ moves line are.
    subst
    (λ (m : Move). AreLast (moves ++ m ∷ [])
    (slice_set c.args.last.now c.in-Refuse.t.0 (Some (record { t = c.in-Refuse.t; u = c.in-Refuse.u; line = c.args.line })))) (sym c.in-Refuse.is)
    (noted_refuse moves c.in-Refuse.t c.in-Refuse.s c.in-Refuse.b c.in-Refuse.u c.args.line c.args.last.now line are)

pub returns-in-Bar : goal.returns-in-Bar
returns-in-Bar c = λ moves line are.
    subst
    (λ (m : Move). AreLast (moves ++ m ∷ []) (slice_set c.args.last.now c.in-Bar.t.0 (Some (record { t = c.in-Bar.t; u = c.in-Bar.u; line = c.args.line }))))
    (sym c.in-Bar.is)
    (noted_bar moves c.in-Bar.t c.in-Bar.b c.in-Bar.u c.args.line c.args.last.now line are)

pub returns-in_default : goal.returns-in_default
returns-in_default c = λ moves line are.
    noted_other moves c.args.m c.args.last.now (refuses_nobody c.args.m c.in_default.not-Refuse c.in_default.not-Bar) are
