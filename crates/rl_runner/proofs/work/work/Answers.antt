use Rattle.std.proofs.Common.{◌-◌, ◌<◌, length, arith}
use Rattle.rl_runner.proofs.Turned.{turned_on, one_less}
use Rattle.rl_runner.proofs.work.work.Goals as goal

pub loop-pass-preserved : goal.loop-pass-preserved
loop-pass-preserved g c =
    let turner = g.T.Turner in
    let on = c.at_home.ensures in (
      λ i d within.
          let there : i < length c.loop-pass.group = omega arith in
          turned_on turner.number turner.turns turner.home on c.loop-pass.pass _ _ _
          (c.loop-pass.invariant.0 i d within) (c.one_round.ensures.turned i d there),
      one_less turner.ready c.args.round c.loop-pass.pass c.one_round.new.group
          (c.one_round.ensures.ready (c.args.round - c.loop-pass.pass) (omega arith) c.loop-pass.invariant.1),
    )
