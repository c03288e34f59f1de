-- The mind of a box: at the start, and what is true of it at all times.
use Rattle.std.specs.Prelude.{◌≡◌, ◌≢◌, ◌<◌, Option, Some, None}
use Rattle.rl_base.specs.declared.limits.TheConstants.{MAX_TRAINS}
use Rattle.rl_base.specs.declared.layout.Layout.{Layout}
use Rattle.rl_base.specs.Kind.{arms_of}
use Rattle.rl_words.specs.declared.lock.Path.{Path}
use Rattle.rl_words.specs.declared.mail.Letter.{Letter}
use Rattle.rl_words.specs.Mail.{FitsLetter}
use Rattle.rl_tables.specs.declared.table.BoxTable.{BoxTable}
use Rattle.rl_box.specs.declared.mind.Answer.{Answer}
use Rattle.rl_box.specs.declared.mind.Answer.TheVariants.{Yes, No}
use Rattle.rl_box.specs.declared.mind.BoxMind.{BoxMind}
use Rattle.rl_box.specs.declared.mind.Work.{Work}
use Rattle.rl_box.specs.declared.mind.Work.TheVariants.{Ready, Serve, Say}

abbrev pub box_at : Work → Option Path → BoxMind
box_at work waiting = record { work = work; waiting = waiting }

-- ready, and it waits for no points
abbrev pub start_box : BoxMind
start_box = box_at Ready None

-- a letter to the box, about arms that it has
pub record IsLetterTo (b : BoxTable) (l : Letter) : Type 0 where
  pub to : l.to ≡ b.number
  pub fits : FitsLetter l
  pub x : l.x.0 < arms_of b.kind
  pub y : l.y.0 < arms_of b.kind

-- who holds what was asked for has a number that a word can say
abbrev pub IsAnswer : Answer → Type 0
IsAnswer Yes = Unit {0}
IsAnswer (No holder) = holder.0 < MAX_TRAINS

-- the box has in hand a letter to it, of a train that there is
abbrev pub IsWork : Layout → BoxTable → Work → Type 0
IsWork lay b Ready = Unit {0}
IsWork lay b (Serve t l) = (t.0 < lay.trains) × IsLetterTo b l
IsWork lay b (Say t l answer) = (t.0 < lay.trains) × IsLetterTo b l × IsAnswer answer

-- a path between two arms of the box, of a train that there is
pub record IsPathOf (lay : Layout) (b : BoxTable) (p : Path) : Type 0 where
  pub train : p.train.0 < lay.trains
  pub x : p.x.0 < arms_of b.kind
  pub y : p.y.0 < arms_of b.kind
  pub apart : p.x.0 ≢ p.y.0

abbrev pub IsWait : Layout → BoxTable → Option Path → Type 0
IsWait lay b None = Unit {0}
IsWait lay b (Some p) = IsPathOf lay b p

pub record IsBoxMind (lay : Layout) (b : BoxTable) (mind : BoxMind) : Type 0 where
  pub work : IsWork lay b mind.work
  pub waiting : IsWait lay b mind.waiting
