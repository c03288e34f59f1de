use Rattle.std.proofs.Common.{List, length, take, sym, subst, arith}
use Rattle.std.proofs.lemmas.List.{take_all, take_more, length-take-le}
use Rattle.rl_model.specs.declared.moves.Move.{Move}
use Rattle.rl_model.specs.declared.moves.Move.TheVariants.{Reserve}
use Rattle.rl_jam.specs.Finding.{AreLast}
use Rattle.rl_jam.proofs.Refused.{note_at}
use Rattle.rl_jam.proofs.refusals.note_all.Goals as goal

pub note-requires : goal.note-requires
note-requires c =
    note_at c.args.net.now c.args.moves.now c.loop-k.k (Reserve (record { 0 = 0 }) (record { 0 = 0 }) (record { 0 = 0 })) (length c.loop-k.last)
    (omega arith) c.requires.of (omega arith)

pub loop-k-preserved : goal.loop-k-preserved
loop-k-preserved c =
    let front = length-take-le c.loop-k.k c.args.moves.now (omega arith) in
    subst (λ (ms : List Move). AreLast ms c.note.new.last)
    (sym (take_more c.args.moves.now c.loop-k.k (Reserve (record { 0 = 0 }) (record { 0 = 0 }) (record { 0 = 0 })) (omega arith)))
    (c.note.ensures (take c.loop-k.k c.args.moves.now) (omega arith) c.loop-k.invariant)

pub returns : goal.returns
returns c = subst (λ (ms : List Move). AreLast ms c.loop-k.last) (take_all c.loop-k.k c.args.moves.now (omega arith)) c.loop-k.invariant
