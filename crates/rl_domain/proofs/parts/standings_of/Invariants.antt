use Rattle.std.proofs.Common.{◌≡◌, ℕ, length, Some, slice_get}
use Rattle.rl_domain.specs.declared.states.Standing.{Standing}
use Rattle.rl_domain.specs.PartRows.{IsStandingOf}
use Rattle.rl_domain.proofs.parts.standings_of.Given as goal

abbrev pub invariant-loop-t : goal.invariant-loop-t
invariant-loop-t l = (length l.standings.items ≡ l.t) × ((t : ℕ) (x : Standing) → slice_get l.standings.items t ≡ Some x → IsStandingOf l.net l.spots t x)
