use Rattle.std.proofs.Common.{◌≡◌, length}
use Rattle.rl_jam.specs.Finding.{AreBegun}
use Rattle.rl_jam.proofs.rings.jam_from.Given as goal

-- the rows so far, as many as there were steps
abbrev pub invariant-loop : goal.invariant-loop
invariant-loop l = record { begun : AreBegun l.report l.first.0 l.rows l.t.0; count : length l.rows ≡ l.counter }
