-- The job table: all that is said of a job. What a train asks in it, which job comes after yes and after no, what the
-- train holds and has locked in it, and what becomes of its attempt and of its step. Proofs look into a job only where
-- one of these words is opened.
use Rattle.std.specs.Prelude.{ℕ, ◌==◌, Bool, true, false, not, ◌&&◌, ◌||◌, Option, Some, None, option_map, is_some}
use Rattle.std.specs.Prelude.{if◌then◌else◌}
use Rattle.std.specs.Option.{option_map_or}
use Rattle.rl_base.specs.declared.ids.Arm.{Arm}
use Rattle.rl_base.specs.declared.ids.BoxId.{BoxId}
use Rattle.rl_base.specs.declared.job.Job.{Job}
use Rattle.rl_base.specs.declared.job.Job.TheVariants.{Near, Far, Near2, Far2, Lock, Pass, Unlock, FreeNear, FreeFar}
use Rattle.rl_base.specs.declared.job.Job.TheVariants.{DropFar2, DropNear2, DropFar, DropNear}
use Rattle.rl_base.specs.declared.job.Verb.TheVariants as verbs
use Rattle.rl_words.specs.declared.mail.Letter.{Letter}
use Rattle.rl_words.specs.Mail.{same_letter, about_arm, about_passage}
use Rattle.rl_tables.specs.declared.table.NextRow.{NextRow}
use Rattle.rl_tables.specs.declared.table.StepRow.{StepRow}

-- the row looks ahead: its train reserves the segment after the next one, before it asks for the lock
abbrev pub looks_ahead : StepRow → Bool
looks_ahead row = is_some row.next

-- what the train asks of a box, at the row of its step. Who passes asks nothing
unfoldable pub letter : StepRow → Job → Option Letter
letter row Near = Some (about_arm row.b verbs.Reserve row.y)
letter row Far = Some (about_arm row.c verbs.Reserve row.c_arm)
letter row Near2 = option_map (λ n. about_arm n.b2 verbs.Reserve n.b2_arm) row.next
letter row Far2 = option_map (λ n. about_arm n.c2 verbs.Reserve n.c2_arm) row.next
letter row Lock = Some (about_passage row.b verbs.Lock row.x row.y)
letter row Pass = None
letter row Unlock = Some (about_passage row.b verbs.Unlock row.x row.y)
letter row FreeNear = Some (about_arm row.b verbs.Release row.x)
letter row FreeFar = Some (about_arm row.a verbs.Release row.a_arm)
letter row DropFar2 = option_map (λ n. about_arm n.c2 verbs.Release n.c2_arm) row.next
letter row DropNear2 = option_map (λ n. about_arm n.b2 verbs.Release n.b2_arm) row.next
letter row DropFar = Some (about_arm row.c verbs.Release row.c_arm)
letter row DropNear = Some (about_arm row.b verbs.Release row.y)

-- the job asks by this letter
abbrev pub asks : StepRow → Job → Letter → Bool
asks row job l = option_map_or (λ own. same_letter own l) (letter row job) false

-- the job at the step after one that looked ahead, whose segment the train holds already: it goes on with a new attempt,
-- or drops that segment where no attempt is left. `more` says that this step looks ahead too
abbrev pub onward : (more spent : Bool) → Job
onward more spent = if spent then DropFar else (if more then Near2 else Lock)

-- the job after yes, and after the passage. `more` says that the row after this one looks ahead, and `spent` that the
-- train has no attempt left; both are asked at the end of the step alone
unfoldable pub after_yes : StepRow → (more spent : Bool) → Job → Job
after_yes row more spent Near = Far
after_yes row more spent Far = if looks_ahead row then Near2 else Lock
after_yes row more spent Near2 = Far2
after_yes row more spent Far2 = Lock
after_yes row more spent Lock = Pass
after_yes row more spent Pass = Unlock
after_yes row more spent Unlock = FreeNear
after_yes row more spent FreeNear = FreeFar
after_yes row more spent FreeFar = if looks_ahead row then onward more spent else Near
after_yes row more spent DropFar2 = DropNear2
after_yes row more spent DropNear2 = DropFar
after_yes row more spent DropFar = DropNear
after_yes row more spent DropNear = Near

-- with the yes to this job the train opens its next attempt
unfoldable pub reopens : StepRow → (spent : Bool) → Job → Bool
reopens row spent FreeFar = looks_ahead row && not spent
reopens row spent _ = false

-- the job after no. A release and an unlock are never refused
unfoldable pub after_no : StepRow → Job → Option Job
after_no row Near = Some Near
after_no row Far = Some DropNear
after_no row Near2 = Some DropFar
after_no row Far2 = Some DropNear2
after_no row Lock = Some (if looks_ahead row then DropFar2 else DropFar)
after_no row Pass = None
after_no row Unlock = None
after_no row FreeNear = None
after_no row FreeFar = None
after_no row DropFar2 = None
after_no row DropNear2 = None
after_no row DropFar = None
after_no row DropNear = None

-- box b and arm x are this place
abbrev pub at : BoxId → Arm → ℕ → ℕ → Bool
at box arm b x = box.0 == b && arm.0 == x

-- they are the near end of the segment after the next one
abbrev pub at_near2 : Option NextRow → ℕ → ℕ → Bool
at_near2 None b x = false
at_near2 (Some n) b x = at n.b2 n.b2_arm b x

-- what the train holds at the place, arm x of box b, while its letter isn't done. `here` says that the segment on which
-- its step begins has an end there, `ahead` that the one to which it goes has, and `beyond` that the one after that has
unfoldable pub holds_at : Job → StepRow → (here ahead beyond : Bool) → (b x : ℕ) → Bool
holds_at Near row here ahead beyond b x = here
holds_at Far row here ahead beyond b x = here || at row.b row.y b x
holds_at Near2 row here ahead beyond b x = here || ahead
holds_at Far2 row here ahead beyond b x = here || ahead || at_near2 row.next b x
holds_at Lock row here ahead beyond b x = here || ahead || looks_ahead row && beyond
holds_at Pass row here ahead beyond b x = here || ahead || looks_ahead row && beyond
holds_at Unlock row here ahead beyond b x = here || ahead || looks_ahead row && beyond
holds_at FreeNear row here ahead beyond b x = here || ahead || looks_ahead row && beyond
holds_at FreeFar row here ahead beyond b x = at row.a row.a_arm b x || ahead || looks_ahead row && beyond
holds_at DropFar2 row here ahead beyond b x = here || ahead || looks_ahead row && beyond
holds_at DropNear2 row here ahead beyond b x = here || ahead || at_near2 row.next b x
holds_at DropFar row here ahead beyond b x = here || ahead
holds_at DropNear row here ahead beyond b x = here || at row.b row.y b x

-- the train has the lock of box b for the path from arm x to arm y, while its letter isn't done
unfoldable pub locks_at : Job → StepRow → (b x y : ℕ) → Bool
locks_at Pass row b x y = at row.b row.x b x && row.y.0 == y
locks_at Unlock row b x y = at row.b row.x b x && row.y.0 == y
locks_at _ row b x y = false

-- a post in this job opens an attempt
unfoldable pub is_near : Job → Bool
is_near Near = true
is_near _ = false

-- the letter of the job is about the segment after the next one
unfoldable pub names_next : Job → Bool
names_next Near2 = true
names_next Far2 = true
names_next DropFar2 = true
names_next DropNear2 = true
names_next _ = false

-- an attempt is open: in Near while the train waits, and until it is refused or the step is made
unfoldable pub is_open : Job → (waits : Bool) → Bool
is_open Near waits = waits
is_open DropFar2 waits = false
is_open DropNear2 waits = false
is_open DropFar waits = false
is_open DropNear waits = false
is_open _ waits = true

-- the job without a letter
unfoldable pub is_pass : Job → Bool
is_pass Pass = true
is_pass _ = false

-- the train has left the segment on which its step began
unfoldable pub has_passed : Job → Bool
has_passed Unlock = true
has_passed FreeNear = true
has_passed FreeFar = true
has_passed _ = false

-- the job ends the step
unfoldable pub ends_step : Job → Bool
ends_step FreeFar = true
ends_step _ = false
