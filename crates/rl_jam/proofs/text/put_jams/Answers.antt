use Rattle.rl_jam.proofs.Lines.{jams_step}
use Rattle.std.proofs.Common.{◌++◌}
use Rattle.rl_jam.specs.JamText.{jams_lines}
use Rattle.rl_jam.proofs.text.put_jams.Goals as goal

pub loop-i-preserved : goal.loop-i-preserved
loop-i-preserved c =
    jams_step c.args.net.now c.args.jams.now c.loop-i.i c.at.result.now c.loop-i.out c.put_jam.new.out
    (c.args.out.now ++ jams_lines c.args.net.now 1 c.args.jams.now) c.at.ensures.there c.in_ok-put_jam.ensures c.loop-i.invariant
