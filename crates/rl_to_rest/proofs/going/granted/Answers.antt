use Rattle.std.proofs.Common.{ℕ, suc, ◌/◌, ap, arith}
use Rattle.rl_to_rest.proofs.Granting.{all_topped_on}
use Rattle.rl_to_rest.proofs.going.granted.Goals as goal

pub loop-asked-preserved : goal.loop-asked-preserved
loop-asked-preserved c =
    record {
      few = omega (arith, c.loop-asked.invariant.few);
      half = (suc c.loop-asked.invariant.half.0, ap (λ (n : ℕ). n / 2) c.loop-asked.invariant.half.1);
      kept = all_topped_on c.args.nodes.now c.loop-asked.nodes c.top_up_all.new.nodes c.loop-asked.invariant.kept c.top_up_all.ensures.kept;
    }
