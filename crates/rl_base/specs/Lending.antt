-- What is lent of a list: all items of it, to be changed.
use Rattle.std.specs.Prelude.{List, length, take, drop, ◌++◌}
use Rattle.std.specs.Borrow.{Lends, MutBor, Fml, Array, RattleType}
use Rattle.rl_base.specs.contracts.sequence.Sequence as list

-- the list with these items in the places of its first ones: just these, where there are as many
abbrev pub replaced : {T : Type 0} → List T → List T → List T
replaced items new = take (length items) (new ++ drop (length new) items)

-- the list ends with the last items behind the slice
abbrev pub LendsAll : (T : RattleType) → MutBor (List T.Denot) → MutBor (List T.Denot) → Fml
LendsAll T all lent = Lends (list.the_row T) (Array T 0) all lent (replaced all.now)
