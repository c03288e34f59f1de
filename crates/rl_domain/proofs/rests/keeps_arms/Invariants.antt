use Rattle.std.proofs.Common.{◌≡◌, ℕ, ◌<◌}
use Rattle.rl_domain.specs.States.{is_train, holder_at}
use Rattle.rl_domain.specs.Rests.{is_at_arm}
use Rattle.rl_domain.proofs.rests.keeps_arms.Given as goal

abbrev pub invariant-loop-i : goal.invariant-loop-i
invariant-loop-i l = (j : ℕ) → j < l.i → is_train l.t.0 (holder_at l.state j) ≡ is_at_arm l.net l.s.0 l.b.0 j
