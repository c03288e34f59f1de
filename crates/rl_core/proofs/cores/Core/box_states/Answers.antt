use Rattle.std.proofs.Common.{arith, length-append}
use Rattle.rl_base.proofs.Lists.{each_push}
use Rattle.rl_core.specs.Worlds.{IsBoxState}
use Rattle.rl_core.proofs.cores.Core.box_states.Goals as goal

pub loop-b-preserved : goal.loop-b-preserved
loop-b-preserved c =
    let pushed = c.in_ok-push.ensures.ok in
    rw pushed record {
      size = grind (arith, length-append, c.loop-b.invariant.size);
      each = each_push (IsBoxState c.args.net.now c.args.self.now) c.loop-b.boxes c.box_state.result c.loop-b.invariant.each
          (rw c.loop-b.invariant.size c.box_state.ensures);
    }
