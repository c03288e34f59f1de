-- What every step of a train keeps to.
use Rattle.std.specs.Prelude.{◌≡◌, ℕ, ◌<◌, ◌≤◌, Some}
use Rattle.rl_base.specs.declared.limits.TheConstants.{MAX_BOXES, MAX_TRAINS}
use Rattle.rl_base.specs.Numbers.{IsU32}
use Rattle.rl_base.specs.declared.layout.Layout.{Layout}
use Rattle.rl_base.specs.declared.layout.NodeKind.TheVariants as nodes
use Rattle.rl_base.specs.declared.layout.WordKind.{WordKind}
use Rattle.rl_base.specs.Layout.{word_number, node_number}
use Rattle.rl_words.specs.Owner.{Owns}
use Rattle.rl_words.specs.Word.{Word, IsReading, read_word}
use Rattle.rl_tables.specs.declared.table.TrainTable.{TrainTable}
use Rattle.rl_train.specs.declared.mind.TrainMind.{TrainMind}
use Rattle.rl_train.specs.Mind.{IsTrainMind, IsUsable}
use Rattle.rl_train.specs.Steps.{TrainStep, train_target}

-- a train of a line, with a well-formed mind
pub record IsTrainOn (lay : Layout) (table : TrainTable) (mind : TrainMind) : Type 0 where
  pub boxes : lay.boxes ≤ MAX_BOXES
  pub trains : lay.trains ≤ MAX_TRAINS
  pub there : table.number.0 < lay.trains
  pub table_is : IsUsable table
  pub mind_is : IsTrainMind table mind

-- a step changes the word that the train looks at and owns, leaves a value of that word there, and a well-formed mind
pub record KeepsTrain (lay : Layout) (table : TrainTable) (mind : TrainMind) (kind : WordKind) (payload new : ℕ)
    (after : TrainMind) : Type 0 where
  pub target : train_target table mind ≡ Some kind
  pub owned : Owns lay (word_number lay kind) payload (node_number lay (nodes.Train table.number))
  pub seen : Word
  pub left : Word
  pub saw : read_word kind payload ≡ Some seen
  pub step : TrainStep table mind seen left after
  pub reads : IsReading kind new left
  pub small : IsU32 new
  pub after_is : IsTrainMind table after
