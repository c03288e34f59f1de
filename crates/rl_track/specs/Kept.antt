-- What every step of a track and of a point machine keeps to.
use Rattle.std.specs.Prelude.{◌≡◌, ℕ, Some}
use Rattle.rl_base.specs.Numbers.{IsU32}
use Rattle.rl_base.specs.declared.ids.BoxId.{BoxId}
use Rattle.rl_base.specs.declared.ids.TrainId.{TrainId}
use Rattle.rl_base.specs.declared.layout.Layout.{Layout}
use Rattle.rl_base.specs.declared.layout.NodeKind.TheVariants as nodes
use Rattle.rl_base.specs.declared.layout.WordKind.{WordKind}
use Rattle.rl_base.specs.Layout.{word_number, node_number}
use Rattle.rl_words.specs.Owner.{Owns}
use Rattle.rl_words.specs.Word.{Word, IsReading, read_word}
use Rattle.rl_track.specs.declared.track.TrackMind.{TrackMind}
use Rattle.rl_track.specs.declared.machine.MachineMind.{MachineMind}
use Rattle.rl_track.specs.Machine.{MachineStep, machine_target}
use Rattle.rl_track.specs.Track.{IsTrackMind, TrackStep, track_target}

-- a step changes the word that the track looks at and owns, leaves a value of that word there, and a well-formed mind
pub record KeepsTrack (lay : Layout) (t : TrainId) (mind : TrackMind) (kind : WordKind) (payload new : ℕ)
    (after : TrackMind) : Type 0 where
  pub target : kind ≡ track_target t mind
  pub owned : Owns lay (word_number lay kind) payload (node_number lay (nodes.Track t))
  pub seen : Word
  pub left : Word
  pub saw : read_word kind payload ≡ Some seen
  pub step : TrackStep t mind seen left after
  pub reads : IsReading kind new left
  pub small : IsU32 new
  pub after_is : IsTrackMind after

-- a step changes the word that the machine looks at and owns, and leaves a value of that word there
pub record KeepsMachine (lay : Layout) (b : BoxId) (mind : MachineMind) (kind : WordKind) (payload new : ℕ)
    (after : MachineMind) : Type 0 where
  pub target : kind ≡ machine_target b
  pub owned : Owns lay (word_number lay kind) payload (node_number lay (nodes.Machine b))
  pub seen : Word
  pub left : Word
  pub saw : read_word kind payload ≡ Some seen
  pub step : MachineStep b mind seen left after
  pub reads : IsReading kind new left
  pub small : IsU32 new
