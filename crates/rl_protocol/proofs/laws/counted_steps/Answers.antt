use Rattle.rl_protocol.specs.Runs.{state_after}
use Rattle.rl_protocol.proofs.Totals.{events_most, node_events_most, moves_most, opened_most}
use Rattle.rl_protocol.proofs.laws.counted_steps.Goals as goal

pub returns : goal.returns
returns c =
    record {
      steps = λ line tries trains steps laws others run. events_most line tries steps trains laws others run;
      node = λ line tries trains steps node laws others run. node_events_most node line tries steps trains laws others run;
      moves = λ line tries trains steps laws others run. moves_most line tries steps trains laws others run;
      opened = λ line tries trains steps. opened_most tries (state_after line tries steps) trains;
    }
