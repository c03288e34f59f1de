use Rattle.std.proofs.Common.{◌<◌, arith}
use Rattle.std.proofs.lemmas.Bool.Decides.{nat_tests}
use Rattle.rl_model.specs.Network.{steps_of}
use Rattle.rl_domain.proofs.world.World.is_next_step.Goals as goal

pub returns-then-k-steps : goal.returns-then-k-steps
returns-then-k-steps c =
    let left : c.made-k.result < steps_of c.args.net.now c.args.t.0 = rw (← c.steps.ensures.count) c.if-k-steps.true in
    rw (← c.made-k.ensures c.args.net.now)
    (λ is. (left, c.is_step.ensures.0 is), λ both. c.is_step.ensures.1 both.1)

pub returns-else-k-steps : goal.returns-else-k-steps
returns-else-k-steps c =
    rw (← c.made-k.ensures c.args.net.now, ← c.steps.ensures.count)
    (λ is. absurd (let done = c.if-k-steps.false in grind (arith, nat_tests)), λ both. absurd (omega (arith, both.0, c.if-k-steps.false)))
