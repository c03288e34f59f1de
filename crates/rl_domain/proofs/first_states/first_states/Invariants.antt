use Rattle.std.proofs.Common.{◌≡◌, ℕ, length, Some, slice_get}
use Rattle.rl_domain.specs.declared.states.BoxState.{BoxState}
use Rattle.rl_domain.specs.FirstStates.{IsFirstState}
use Rattle.rl_domain.proofs.first_states.first_states.Given as goal

abbrev pub invariant-loop-b : goal.invariant-loop-b
invariant-loop-b l = (length l.states.items ≡ l.b) × ((b : ℕ) (x : BoxState) → slice_get l.states.items b ≡ Some x → IsFirstState l.net b x)
