use Rattle.rl_track.proofs.TrackLemmas.{acts_by_lines, acts_owned}
use Rattle.rl_track.proofs.track.TrackMind.act.Goals as goal

pub returns : goal.returns
returns c =
    let mind = c.args.self.now in
    let is = c.step_there.ensures.step in
    record {
      sentence = λ t new after. acts_by_lines t mind c.args.payload c.step_there.result (is t) new after;
      owned = λ lay t there. acts_owned c.track_steps.ensures lay t mind c.args.payload c.step_there.result there c.requires (is t);
      step = is;
      kept = c.step_there.ensures.kept;
    }
