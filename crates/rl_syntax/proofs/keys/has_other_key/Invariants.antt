use Rattle.std.proofs.Common.{◌≡◌}
use Rattle.toml.specs.View.{members_view}
use Rattle.rl_syntax.specs.Table.{has_other_key}
use Rattle.rl_syntax.proofs.keys.has_other_key.Given as goal

-- the keys that are left decide
abbrev pub invariant-loop-key : goal.invariant-loop-key
invariant-loop-key l =
    has_other_key l.keys (members_view l.key-iterator) ≡ has_other_key l.keys (members_view l.table.entries)
