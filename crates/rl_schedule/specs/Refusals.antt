-- The refusals of a schedule: their numbers and places, and what is so unless memory runs out.
use Rattle.std.specs.Prelude.{ℕ, List, Result, Err}
use Rattle.rl_base.specs.declared.place.Place.{Place}
use Rattle.rl_base.specs.declared.place.Place.TheVariants as place
use Rattle.rl_schedule.specs.declared.refusal.ScheduleRefusal.{ScheduleRefusal}
use Rattle.rl_schedule.specs.declared.refusal.ScheduleRefusal.TheVariants.{Line, NoNode, TooMany, NoMemory}
use Rattle.rl_schedule.specs.declared.schedules.Item.{Item}

-- the number of the cause, 0 for want of memory
abbrev pub refusal_number : ScheduleRefusal → ℕ
refusal_number (Line n) = 16
refusal_number (NoNode n) = 17
refusal_number (TooMany n) = 18
refusal_number NoMemory = 0

-- the line that it names
abbrev pub refusal_place : ScheduleRefusal → Place
refusal_place (Line n) = place.ScheduleLine n
refusal_place (NoNode n) = place.ScheduleLine n
refusal_place (TooMany n) = place.ScheduleLine n
refusal_place NoMemory = place.None

-- the fact, unless the answer is that memory ran out
abbrev pub UnlessMemory : Result (List Item) ScheduleRefusal → Type 0 → Type 0
UnlessMemory (Err NoMemory) P = Unit {0}
UnlessMemory _ P = P
