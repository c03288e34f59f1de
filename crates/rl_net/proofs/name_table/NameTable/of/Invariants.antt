use Rattle.std.proofs.Common.{◌≡◌, ℕ, ◌<◌, false, take, map}
use Rattle.rl_drafts.specs.Refusals.{is_twice}
use Rattle.rl_net.proofs.name_table.NameTable.of.Given as goal

abbrev pub invariant-loop-i : goal.invariant-loop-i
invariant-loop-i g l =
    (l.table ≡ map g.T.Named.name_of (take l.i l.items))
    × ((j : ℕ) → j < l.i → is_twice (map g.T.Named.name_of l.items) j ≡ false)
