use Rattle.std.proofs.Common.{ℕ, ◌<◌, ◌≤◌, length, refl, arith}
use borrow.Author.Count.{below_more}
use Rattle.rl_plan.specs.Rising.{RisesFrom}
use Rattle.rl_plan.proofs.BothWays.{neighbours-swap, neighbour_there}
use Rattle.rl_plan.proofs.certificate.rises.Goals as goal

pub returns-then-not-rises_around : goal.returns-then-not-rises_around
returns-then-not-rises_around c = (
  λ no. absurd (cc),
  λ all. let yes = c.rises_around.ensures.1 (all c.loop-s.s) in absurd (cc),
)

pub loop-s-preserved : goal.loop-s-preserved
loop-s-preserved c =
    below_more (λ (r : ℕ). RisesFrom c.args.net.now c.args.levels.now r) c.loop-s.s c.loop-s.invariant (c.rises_around.ensures.0 c.if-not-rises_around.false)

pub returns : goal.returns
returns c = (
  λ t s b r n near level.
      let there = neighbour_there c.args.net.now b r s (neighbours-swap c.args.net.now b s r near) in
      let all : length c.args.net.now.segments ≤ c.loop-s.s = omega arith in
      let here : s < c.loop-s.s = omega arith in
      c.loop-s.invariant s here b r n near level,
  λ all. refl,
)
