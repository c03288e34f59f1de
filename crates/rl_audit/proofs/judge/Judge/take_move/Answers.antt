use Rattle.std.proofs.Common.{◌≡◌, ◌+◌, None, refl, arith}
use Rattle.std.proofs.lemmas.Bool.Decides.{nat_tests}
use Rattle.rl_audit.proofs.Judging.{read_on, move_made, not_none}
use Rattle.rl_audit.proofs.judge.Judge.take_move.Goals as goal

pub returns-then-is_some : goal.returns-then-is_some
returns-then-is_some c = λ moves few judged.
    let failed = c.if-is_some.true in
    let test = c.is_some.ensures in
    read_on c.args.net.now moves c.args.m c.args.self.now (c.args.self.now.moves + 1) refl
    (not_none c.args.self.now.failure c.is_some.result test failed) judged

pub returns-in-Ok : goal.returns-in-Ok
returns-in-Ok c = λ moves few judged.
    let failed = c.if-is_some.false in
    let test = c.is_some.ensures in
    let fine : c.args.self.now.failure ≡ None = grind (arith, nat_tests) in
    move_made c.args.net.now moves c.args.m c.args.self.now _ refl fine fine c.in-Ok.ensures.all_hold c.in-Ok.ensures.changed c.in-Ok.ensures.fits
    c.count_move.ensures.len (c.count_move.ensures.counted moves (omega arith)) judged
