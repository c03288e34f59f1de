use Rattle.rl_track.proofs.MachineLemmas.{acts_by_lines, acts_owned}
use Rattle.rl_track.proofs.machine.MachineMind.act.Goals as goal

pub returns : goal.returns
returns c =
    let mind = c.args.self.now in
    let is = c.step_there.ensures in
    record {
      sentence = λ b new after. acts_by_lines b mind c.args.payload c.step_there.result (is b) new after;
      owned = λ lay b there. acts_owned c.machine_steps.ensures lay b mind c.args.payload c.step_there.result there (is b);
      step = is;
    }
