use Rattle.std.proofs.Common.{arith, length-append}
use Rattle.rl_base.proofs.Lists.{each_push}
use Rattle.rl_domain.specs.FirstStates.{IsFirstState}
use Rattle.rl_domain.proofs.first_states.first_states.Goals as goal

pub loop-b-preserved : goal.loop-b-preserved
loop-b-preserved c =
    rw c.in_ok-push.ensures.items (
      grind (arith, length-append),
      each_push (IsFirstState c.args.net.now) c.loop-b.states.items c.first_state.result c.loop-b.invariant.1 (rw c.loop-b.invariant.0 c.first_state.ensures),
    )
