use Rattle.rl_protocol.specs.Runs.{state_after}
use Rattle.rl_protocol.proofs.Agreed.{agrees}
use Rattle.rl_protocol.proofs.Served.{at_work}
use Rattle.rl_protocol.proofs.Asked.{asked_steps}
use Rattle.rl_protocol.proofs.laws.boxes_at_work.Goals as goal

pub returns : goal.returns
returns c =
    record {
      busy = λ line tries steps b word laws run h. at_work line tries (state_after line tries steps) b word laws (agrees line tries steps laws run) h;
      asked = λ line tries steps t l laws run mail ready.
          asked_steps line tries (state_after line tries steps) t l laws (agrees line tries steps laws run) mail ready;
    }
