-- What every step of a box keeps to.
use Rattle.std.specs.Prelude.{◌≡◌, ℕ, ◌<◌, ◌≤◌, Some}
use Rattle.rl_base.specs.declared.limits.TheConstants.{MAX_BOXES, MAX_TRAINS}
use Rattle.rl_base.specs.Numbers.{IsU32}
use Rattle.rl_base.specs.declared.layout.Layout.{Layout}
use Rattle.rl_base.specs.declared.layout.NodeKind.TheVariants as nodes
use Rattle.rl_base.specs.declared.layout.WordKind.{WordKind}
use Rattle.rl_base.specs.Layout.{HasWord, word_number, node_number}
use Rattle.rl_words.specs.Owner.{Owns}
use Rattle.rl_words.specs.Word.{Word, IsReading, read_word}
use Rattle.rl_tables.specs.declared.table.BoxTable.{BoxTable}
use Rattle.rl_box.specs.declared.mind.BoxMind.{BoxMind}
use Rattle.rl_box.specs.Mind.{IsBoxMind}
use Rattle.rl_box.specs.Steps.{BoxStep, box_target}

-- a box of a line, with a well-formed mind, and a word of the line
pub record IsAtWord (lay : Layout) (b : BoxTable) (mind : BoxMind) (kind : WordKind) : Type 0 where
  pub boxes : lay.boxes ≤ MAX_BOXES
  pub trains : lay.trains ≤ MAX_TRAINS
  pub there : b.number.0 < lay.boxes
  pub mind_is : IsBoxMind lay b mind
  pub word : HasWord lay kind

-- a step changes a word that the box looks at and owns by a line of the table of steps, and leaves a value of that word
-- there and a well-formed mind
pub record KeepsBox (lay : Layout) (b : BoxTable) (mind : BoxMind) (kind : WordKind) (payload new : ℕ) (after : BoxMind)
    : Type 0 where
  pub target : (scan : ℕ) × (scan ≤ lay.trains) × (kind ≡ box_target lay b mind scan)
  pub owned : Owns lay (word_number lay kind) payload (node_number lay (nodes.Box b.number))
  pub seen : Word
  pub left : Word
  pub saw : read_word kind payload ≡ Some seen
  pub step : BoxStep b mind seen left after
  pub reads : IsReading kind new left
  pub small : IsU32 new
  pub after_is : IsBoxMind lay b after
