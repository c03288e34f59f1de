use Rattle.rl_track.specs.Track.{IsTrackMind}
use Rattle.rl_tests_runs.proofs.tracks.reports_a_passage.Given as goal

abbrev pub invariant-loop-payload : goal.invariant-loop-payload
invariant-loop-payload g l = IsTrackMind l.mind
