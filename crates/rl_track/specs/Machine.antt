-- The point machine of a box: its steps, first as sentences, one for each line of the table of steps, then as a
-- function.
use Rattle.std.specs.Prelude.{ℕ, ◌==◌, Option, Some, None, option_map, if◌then◌else◌}
use Rattle.rl_base.specs.declared.ids.BoxId.{BoxId}
use Rattle.rl_base.specs.declared.layout.WordKind.{WordKind}
use Rattle.rl_base.specs.declared.layout.WordKind.TheVariants as kinds
use Rattle.rl_words.specs.declared.lock.LockWord.{LockWord}
use Rattle.rl_words.specs.declared.lock.LockWord.TheVariants.{Free, Asked, Moving, Moved, Locked}
use Rattle.rl_words.specs.declared.lock.Path.{Path}
use Rattle.rl_words.specs.Word.{Word, packed_step}
use Rattle.rl_words.specs.Word.Word.{Resv, Lock, Mail, Run, Sense}
use Rattle.rl_track.specs.declared.machine.MachineMind.{MachineMind}

-- The step of the machine of box b, line by line: the word that it sees and what that says, and what it says after
-- the step. The machine has nothing in mind.
pub data MachineStep (b : BoxId) : MachineMind → Word → Word → MachineMind → Type 0 where
  -- the points are asked for, and begin to move
  throw : (mind : MachineMind) (p : Path) → MachineStep b mind (Lock b (Asked p)) (Lock b (Moving p)) mind
  -- they stand for the path
  settle : (mind : MachineMind) (p : Path) → MachineStep b mind (Lock b (Moving p)) (Lock b (Moved p)) mind

abbrev pub lock_turn : LockWord → Option LockWord
lock_turn (Free side) = None
lock_turn (Asked p) = Some (Moving p)
lock_turn (Moving p) = Some (Moved p)
lock_turn (Moved p) = None
lock_turn (Locked p) = None

-- what the machine of box b does with a word: with the lock word of the box alone
abbrev pub machine_on : BoxId → MachineMind → Word → Option (Word × MachineMind)
machine_on b mind (Resv c v) = None
machine_on b mind (Lock c v) = if c.0 == b.0 then option_map (λ next. (Lock c next, mind)) (lock_turn v) else None
machine_on b mind (Mail t v) = None
machine_on b mind (Run t v) = None
machine_on b mind (Sense t v) = None

-- the same of payloads
unfoldable pub machine_step : BoxId → MachineMind → WordKind → ℕ → Option (ℕ × MachineMind)
machine_step b mind = packed_step (machine_on b mind)

-- the word at which the machine looks
abbrev pub machine_target : BoxId → WordKind
machine_target b = kinds.Lock b
