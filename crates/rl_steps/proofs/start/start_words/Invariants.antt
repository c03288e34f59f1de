use Rattle.std.proofs.Common.{◌≡◌}
use Rattle.rl_steps.specs.State.{start_words}
use Rattle.rl_steps.proofs.start.start_words.Given as goal

abbrev pub invariant-loop-w : goal.invariant-loop-w
invariant-loop-w l = l.words.items ≡ start_words l.line l.w
