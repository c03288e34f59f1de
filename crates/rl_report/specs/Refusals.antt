-- The refusals of a report: their numbers and places.
use Rattle.std.specs.Prelude.{ℕ}
use Rattle.rl_base.specs.declared.place.Place.{Place}
use Rattle.rl_base.specs.declared.place.Place.TheVariants as place
use Rattle.rl_report.specs.declared.refusal.ReportRefusal.{ReportRefusal}
use Rattle.rl_report.specs.declared.refusal.ReportRefusal.TheVariants.{Line, Long, NoMemory}

-- the number of the cause, 0 for want of memory
abbrev pub refusal_number : ReportRefusal → ℕ
refusal_number (Line n) = 19
refusal_number Long = 20
refusal_number NoMemory = 0

-- the line that it names: 0 where the whole text is meant
abbrev pub refusal_place : ReportRefusal → Place
refusal_place (Line n) = place.ReportLine n
refusal_place Long = place.ReportLine 0
refusal_place NoMemory = place.None
