use Rattle.std.proofs.Common.{◌≡◌, take}
use Rattle.toml.specs.View.{items_view}
use Rattle.rl_syntax.specs.Spelling.{texts}
use Rattle.rl_syntax.proofs.writing.names_value.Given as goal

-- the names so far are in the array
abbrev pub invariant-loop-name : goal.invariant-loop-name
invariant-loop-name l = items_view l.items.items ≡ texts (take l.name-index l.names)
