use Rattle.rl_core.proofs.Promised.{RunLaws, kept_turn, kept_idle}
use Rattle.rl_core.proofs.promises.turns_keep_promises.Goals as goal

pub returns : goal.returns
returns c =
    let laws : RunLaws = record {
      promises = c.promises_of_runs.ensures;
      guarded = c.newest_events.ensures.guarded;
      rests = c.turns_at_rest.ensures;
      idles = c.boxes_at_work.ensures.idles;
    } in
    record {
      turn = λ old new n says reached there turn. kept_turn laws old new n reached says there turn;
      idle = λ old new n says reached there turn idle. kept_idle laws old new n reached says there turn idle;
    }
