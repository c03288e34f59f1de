-- The first word of each move's line.
use Rattle.std.specs.Prelude.{ℕ, List, codes}
use Rattle.rl_report.specs.declared.moves.MoveName.{MoveName}
use Rattle.rl_report.specs.declared.moves.MoveName.TheVariants.{Reserve, Release, Lock, Unlock, Throw}
use Rattle.rl_report.specs.declared.moves.MoveName.TheVariants.{Settle, Enter, Leave, Refuse, Bar}

abbrev pub name_word : MoveName → List ℕ
name_word Reserve = codes "reserve"
name_word Release = codes "release"
name_word Lock = codes "lock"
name_word Unlock = codes "unlock"
name_word Throw = codes "throw"
name_word Settle = codes "settle"
name_word Enter = codes "enter"
name_word Leave = codes "leave"
name_word Refuse = codes "refuse"
name_word Bar = codes "bar"
