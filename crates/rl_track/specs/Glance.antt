-- What a point machine and a track see of a payload at a glance, before it is unpacked.
use Rattle.std.specs.Prelude.{ℕ, ◌%◌, ◌==◌, Bool, ◌||◌}
use Rattle.rl_track.specs.declared.track.TrackMind.{TrackMind}
use Rattle.rl_track.specs.declared.track.TrackPhase.{TrackPhase}
use Rattle.rl_track.specs.declared.track.TrackPhase.TheVariants.{Watch, HeadDue, LeaveDue, TailDue}

-- the lowest three bits are those of points that are asked for, or that move
abbrev pub may_move : ℕ → Bool
may_move payload = payload % 8 == 1 || payload % 8 == 2

-- the lowest two bits of the word that the track waits for in each phase
abbrev pub awaited : TrackPhase → ℕ
awaited Watch = 1
awaited HeadDue = 0
awaited LeaveDue = 2
awaited TailDue = 1

-- a word with the payload may be one at which the track has a step
abbrev pub may_report : TrackMind → ℕ → Bool
may_report mind payload = payload % 4 == awaited mind.phase
