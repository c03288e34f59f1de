-- The track of a train: its mind, and its steps, first as sentences, one for each line of the table of steps, then as
-- a function.
use Rattle.std.specs.Prelude.{ℕ, ◌+◌, ◌==◌, ◌<◌, ◌≤◌, Option, Some, None, option_map, if◌then◌else◌}
use Rattle.rl_base.specs.declared.limits.TheConstants.{MAX_STEPS}
use Rattle.rl_base.specs.declared.ids.TrainId.{TrainId}
use Rattle.rl_base.specs.declared.layout.WordKind.{WordKind}
use Rattle.rl_base.specs.declared.layout.WordKind.TheVariants as kinds
use Rattle.rl_words.specs.declared.run.RunWord.{RunWord}
use Rattle.rl_words.specs.declared.run.RunWord.TheVariants.{Clear, Go, Across}
use Rattle.rl_words.specs.declared.sense.SenseWord.{SenseWord}
use Rattle.rl_words.specs.declared.sense.SenseWord.TheVariants.{Quiet, Head, Tail}
use Rattle.rl_words.specs.Word.{Word, packed_step}
use Rattle.rl_words.specs.Word.Word.{Resv, Lock, Mail, Run, Sense}
use Rattle.rl_track.specs.declared.track.TrackMind.{TrackMind}
use Rattle.rl_track.specs.declared.track.TrackPhase.{TrackPhase}
use Rattle.rl_track.specs.declared.track.TrackPhase.TheVariants.{Watch, HeadDue, LeaveDue, TailDue}

abbrev pub track_at : ℕ → TrackPhase → TrackMind
track_at k phase = record { step = k; phase = phase }

-- it watches for the first step
abbrev pub start_track : TrackMind
start_track = track_at 0 Watch

-- a route has at most 64 steps, and while the track watches it may be at their end
abbrev pub MayBeAt : ℕ → TrackPhase → Type 0
MayBeAt k Watch = k ≤ MAX_STEPS
MayBeAt k HeadDue = k < MAX_STEPS
MayBeAt k LeaveDue = k < MAX_STEPS
MayBeAt k TailDue = k < MAX_STEPS

abbrev pub IsTrackMind : TrackMind → Type 0
IsTrackMind mind = MayBeAt mind.step mind.phase

-- The step of the track of train t, line by line: its mind, the word that it sees and what that says, what it says
-- after the step, and the mind after it.
pub data TrackStep (t : TrainId) : TrackMind → Word → Word → TrackMind → Type 0 where
  -- the train is told to go, and enters the box
  enter : (k : ℕ) → TrackStep t (track_at k Watch) (Run t (Go k)) (Run t (Across k)) (track_at k HeadDue)
  -- its head is past the box
  head : (k : ℕ) → TrackStep t (track_at k HeadDue) (Sense t (Quiet k)) (Sense t (Head k)) (track_at k LeaveDue)
  -- it has left its segment
  leave : (k : ℕ) → TrackStep t (track_at k LeaveDue) (Run t (Across k)) (Run t (Clear (k + 1))) (track_at k TailDue)
  -- its tail is past the box
  tail : (k : ℕ) → TrackStep t (track_at k TailDue) (Sense t (Head k)) (Sense t (Tail k)) (track_at (k + 1) Watch)

abbrev pub run_turn : ℕ → TrackPhase → RunWord → Option (RunWord × TrackMind)
run_turn step Watch (Clear k) = None
run_turn step Watch (Go k) = if k == step then Some (Across k, track_at k HeadDue) else None
run_turn step Watch (Across k) = None
run_turn step HeadDue v = None
run_turn step LeaveDue (Clear k) = None
run_turn step LeaveDue (Go k) = None
run_turn step LeaveDue (Across k) = if k == step then Some (Clear (k + 1), track_at k TailDue) else None
run_turn step TailDue v = None

abbrev pub sense_turn : ℕ → TrackPhase → SenseWord → Option (SenseWord × TrackMind)
sense_turn step Watch v = None
sense_turn step HeadDue (Quiet k) = if k == step then Some (Head k, track_at k LeaveDue) else None
sense_turn step HeadDue (Head k) = None
sense_turn step HeadDue (Tail k) = None
sense_turn step LeaveDue v = None
sense_turn step TailDue (Quiet k) = None
sense_turn step TailDue (Head k) = if k == step then Some (Tail k, track_at (k + 1) Watch) else None
sense_turn step TailDue (Tail k) = None

-- what the track of train t does with a word: with the run and the sense word of the train alone
abbrev pub track_on : TrainId → TrackMind → Word → Option (Word × TrackMind)
track_on t mind (Resv b v) = None
track_on t mind (Lock b v) = None
track_on t mind (Mail u v) = None
track_on t mind (Run u v) =
    if u.0 == t.0 then option_map (λ r. (Run u r.0, r.1)) (run_turn mind.step mind.phase v) else None
track_on t mind (Sense u v) =
    if u.0 == t.0 then option_map (λ r. (Sense u r.0, r.1)) (sense_turn mind.step mind.phase v) else None

-- the same of payloads
unfoldable pub track_step : TrainId → TrackMind → WordKind → ℕ → Option (ℕ × TrackMind)
track_step t mind = packed_step (track_on t mind)

-- the word at which the track looks in each phase
abbrev pub phase_target : TrainId → TrackPhase → WordKind
phase_target t Watch = kinds.Run t
phase_target t HeadDue = kinds.Sense t
phase_target t LeaveDue = kinds.Run t
phase_target t TailDue = kinds.Sense t

abbrev pub track_target : TrainId → TrackMind → WordKind
track_target t mind = phase_target t mind.phase
