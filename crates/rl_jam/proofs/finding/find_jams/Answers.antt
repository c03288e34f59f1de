use Rattle.std.proofs.Common.{◌+◌, sym, subst, arith}
use Rattle.rl_jam.specs.Finding.{AreJamsBelow}
use Rattle.rl_jam.proofs.Collected.{collected_more, collected_all}
use Rattle.rl_jam.proofs.finding.find_jams.Goals as goal

pub loop-t-preserved : goal.loop-t-preserved
loop-t-preserved c =
    subst (AreJamsBelow c.args.report.now (c.loop-t.t + 1)) (sym c.in_ok-push_jam.ensures)
    (collected_more c.args.report.now c.loop-t.t c.loop-t.jams c.in_ok-jam.jam c.loop-t.invariant c.in_ok-jam.ensures)

pub returns : goal.returns
returns c =
    let count = c.requires.of.trains in
    collected_all c.args.report.now c.loop-t.t c.loop-t.jams (omega arith) c.loop-t.invariant
