-- The mind of a train: at the start, at rest, and what is true of it at all times.
use Rattle.std.specs.Prelude.{◌≡◌, ℕ, ◌+◌, ◌<◌, ◌≤◌, ◌≢◌, ◌==◌, Bool, true, false, not, ◌&&◌, ◌||◌, length, slice_get}
use Rattle.std.specs.Prelude.{Option, Some, if◌then◌else◌}
use Rattle.std.specs.Option.{option_map_or}
use Rattle.rl_base.specs.declared.limits.TheConstants.{MAX_BOXES, MAX_STEPS, MAX_TRAINS}
use Rattle.rl_base.specs.Tries.{AreFewTries}
use Rattle.rl_base.specs.declared.job.Job.TheVariants.{Near}
use Rattle.rl_tables.specs.declared.table.NextRow.{NextRow}
use Rattle.rl_tables.specs.declared.table.StepRow.{StepRow}
use Rattle.rl_tables.specs.declared.table.TrainTable.{TrainTable}
use Rattle.rl_train.specs.declared.mind.TrainMind.{TrainMind}
use Rattle.rl_train.specs.Jobs.{looks_ahead, is_near, is_open, names_next}

-- at its first step, about to reserve, with so many attempts left
abbrev pub start_train : ℕ → TrainMind
start_train tries = record { step = 0; job = Near; waits = false; left = tries; refused = 0 }

-- the row of the step at which the train is, if it isn't at the end of its route
abbrev pub row_of : TrainTable → TrainMind → Option StepRow
row_of table mind = slice_get table.rows mind.step

-- the step after its own looks ahead
abbrev pub looks_on : TrainTable → TrainMind → Bool
looks_on table mind = option_map_or looks_ahead (slice_get table.rows (mind.step + 1)) false

-- it could begin a step, and is at the end of its route or has no attempt left
abbrev pub at_rest : TrainTable → TrainMind → Bool
at_rest table mind = is_near mind.job && (not mind.waits && (mind.step == length table.rows || mind.left == 0))

-- the attempts that it has left, has used for steps made and refusals, and has under way
abbrev pub attempts : TrainMind → ℕ
attempts mind = mind.left + mind.step + mind.refused + (if is_open mind.job mind.waits then 1 else 0)

-- its step is one of its route, or it is at the end of the route and about to begin a step; a job about the segment
-- after the next one is at a row that looks ahead; no more attempts than a train may be given
pub record IsTrainMind (table : TrainTable) (mind : TrainMind) : Type 0 where
  pub within : mind.step ≤ length table.rows
  pub on_route : (is_near mind.job && not mind.waits) ≡ false → mind.step < length table.rows
  pub ahead : names_next mind.job ≡ true → (row : StepRow) → row_of table mind ≡ Some row → looks_ahead row ≡ true
  pub few : AreFewTries (attempts mind)

-- a letter can name the boxes and the arms of what a row looks ahead to
pub record NextCanBeNamed (n : NextRow) : Type 0 where
  pub b2 : n.b2.0 < MAX_BOXES
  pub b2_arm : n.b2_arm.0 < 4
  pub c2 : n.c2.0 < MAX_BOXES
  pub c2_arm : n.c2_arm.0 < 4

-- a letter can name the boxes and the arms of the row
pub record CanBeNamed (row : StepRow) : Type 0 where
  pub b : row.b.0 < MAX_BOXES
  pub x : row.x.0 < 4
  pub y : row.y.0 < 4
  pub apart : row.x.0 ≢ row.y.0
  pub c : row.c.0 < MAX_BOXES
  pub c_arm : row.c_arm.0 < 4
  pub a : row.a.0 < MAX_BOXES
  pub a_arm : row.a_arm.0 < 4
  pub next : (n : NextRow) → row.next ≡ Some n → NextCanBeNamed n

-- the table of a train in a line: at most 64 steps, each of which letters can name. After one that looks ahead there is
-- another
pub record IsUsable (table : TrainTable) : Type 0 where
  pub number : table.number.0 < MAX_TRAINS
  pub short : length table.rows ≤ MAX_STEPS
  pub rows : (k : ℕ) (row : StepRow) → slice_get table.rows k ≡ Some row → CanBeNamed row
  pub goes_on : (k : ℕ) (row : StepRow) → slice_get table.rows k ≡ Some row → looks_ahead row ≡ true
      → k + 1 < length table.rows
