use Rattle.rl_protocol.specs.Runs.{state_after}
use Rattle.rl_protocol.proofs.Agreed.{agrees}
use Rattle.rl_protocol.proofs.Resting.{all_at_rest, rests_in_world, stays_at_rest}
use Rattle.rl_protocol.proofs.laws.trains_at_rest.Goals as goal

pub returns : goal.returns
returns c =
    record {
      all = λ line tries steps laws run rest. all_at_rest line tries (state_after line tries steps) (agrees line tries steps laws run) rest;
      each = λ net line tries steps t is run there rest. rests_in_world net line tries (state_after line tries steps) t is
          (agrees line tries steps is.consistent run) there rest;
      without_steps = λ line tries steps t laws run none. stays_at_rest line tries (state_after line tries steps) t (agrees line tries steps laws run) none;
    }
