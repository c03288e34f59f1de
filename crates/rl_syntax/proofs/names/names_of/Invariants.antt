use Rattle.std.proofs.Common.{◌≡◌, length, drop}
use Rattle.toml.specs.View.{items_view}
use Rattle.rl_syntax.specs.DraftReading.{name_in, names_of}
use Rattle.rl_syntax.specs.Reading.{each}
use Rattle.rl_syntax.proofs.names.names_of.Given as goal

-- what is left is read after the names so far
abbrev pub invariant-loop-j : goal.invariant-loop-j
invariant-loop-j l = record {
  counted : length l.names ≡ l.j;
  rest : names_of l.list (items_view l.items) ≡ each (name_in l.list) l.names (items_view (drop l.j l.items));
}
