use Rattle.std.proofs.Common.{arith}
use Rattle.rl_make.proofs.Legs.{leg_step, leg_last}
use Rattle.rl_make.proofs.train.train_of.Goals as goal

pub loop-leg-preserved : goal.loop-leg-preserved
loop-leg-preserved c = record {
  within = c.station_after-station.ensures.within;
  whole = leg_step c.args.n c.args.i c.loop-leg._leg c.loop-leg.station c.station_after-station.result c.loop-leg.route c.push_leg.new.route _
      (omega arith) c.station_after-station.ensures.value c.in_ok-push_leg.ensures c.loop-leg.invariant.whole;
}

pub returns : goal.returns
returns c =
    let whole = leg_last c.args.n c.args.i c.loop-leg._leg c.loop-leg.station c.loop-leg.route _ (omega arith) c.loop-leg.invariant.whole in
    rw (c.in_ok-name.ensures, whole)
