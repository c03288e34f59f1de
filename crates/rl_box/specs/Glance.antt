-- What a box that is ready sees of a payload at a glance, before it is unpacked.
use Rattle.std.specs.Prelude.{ℕ, ◌+◌, ◌*◌, ◌%◌, ◌==◌, Bool, true, ◌&&◌, ◌||◌, Option, is_some}
use Rattle.rl_base.specs.declared.ids.BoxId.{BoxId}
use Rattle.rl_words.specs.declared.lock.Path.{Path}
use Rattle.rl_box.specs.declared.mind.Work.{Work}
use Rattle.rl_box.specs.declared.mind.Work.TheVariants.{Ready, Serve, Say}

-- the lowest ten bits are those of a letter to the box that is asked
abbrev pub asks_box : BoxId → ℕ → Bool
asks_box b payload = payload % 1024 == 1 + 8 * b.0

-- the lowest three bits are those of points that have moved
abbrev pub says_moved : ℕ → Bool
says_moved payload = payload % 8 == 3

-- a word with the payload may be one at which the box has a step
abbrev pub may_step : BoxId → Work → Option Path → ℕ → Bool
may_step b Ready waiting payload = asks_box b payload || (says_moved payload && is_some waiting)
may_step b (Serve t l) waiting payload = true
may_step b (Say t l answer) waiting payload = true
