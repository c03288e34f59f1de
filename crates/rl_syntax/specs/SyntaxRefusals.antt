-- The refusals of a network text: the number and the place of each.
use Rattle.std.specs.Prelude.{ℕ}
use Rattle.rl_base.specs.declared.place.Place.{Place}
use Rattle.rl_base.specs.declared.place.Place.TheVariants as place
use Rattle.rl_syntax.specs.declared.refusal.SyntaxRefusal.{SyntaxRefusal}
use Rattle.rl_syntax.specs.declared.refusal.SyntaxRefusal.TheVariants.{TooLong, NotToml, Key, BadName, NoMemory}

-- the number of the refusal, 0 for want of memory
abbrev pub refusal_number : SyntaxRefusal → ℕ
refusal_number TooLong = 1
refusal_number NotToml = 2
refusal_number (Key p) = 3
refusal_number (BadName p) = 4
refusal_number NoMemory = 0

-- the place that it names, none where the whole text is refused, and for want of memory
abbrev pub refusal_place : SyntaxRefusal → Place
refusal_place (Key p) = p
refusal_place (BadName p) = p
refusal_place _ = place.None
