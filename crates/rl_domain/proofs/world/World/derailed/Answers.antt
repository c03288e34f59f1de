use Rattle.std.proofs.Common.{refl, arith}
use Rattle.std.proofs.lemmas.Bool.{false≢true}
use Rattle.rl_domain.proofs.Rested.{derailed_from, nobody_derailed}
use Rattle.rl_domain.proofs.world.World.derailed.Goals as goal

pub returns-then-is_off_rails-clause-exact : goal.returns-then-is_off_rails-clause-exact
returns-then-is_off_rails-clause-exact c =
    (λ is. derailed_from _ _ c.loop-k.k (c.is_off_rails.ensures.0 c.if-is_off_rails.true), λ derailed. refl)

pub returns-clause-exact : goal.returns-clause-exact
returns-clause-exact c = (
  λ is. absurd (false≢true is),
  λ derailed. absurd (nobody_derailed c.args.net.now c.args.self.now c.loop-k.k
      (omega (arith, c.requires.trains, c.trains-k-end.ensures.count, c.loop-k-test.false)) c.loop-k.invariant derailed),
)
