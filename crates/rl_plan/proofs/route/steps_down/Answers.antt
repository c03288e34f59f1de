use Rattle.std.proofs.Common.{List, ◌+◌, sym, subst, arith}
use Rattle.rl_plan.specs.declared.plan.PlanStep.{PlanStep}
use Rattle.rl_plan.proofs.Building.{IsBuilt, built_none, built_more, built_all, left_above}
use Rattle.rl_plan.proofs.route.steps_down.Goals as goal

pub loop-k-init : goal.loop-k-init
loop-k-init c =
    subst (λ (xs : List PlanStep). IsBuilt c.args.net.now c.args.levels.now c.args.from.0 c.args.n 0 c.args.from xs) (sym c.new-route.ensures)
    (built_none c.args.net.now c.args.levels.now c.args.n c.args.from c.requires.there c.requires.level)

pub next_step-step-requires-clause-there : goal.next_step-step-requires-clause-there
next_step-step-requires-clause-there c = c.loop-k.invariant.there

pub next_step-step-requires-clause-above : goal.next_step-step-requires-clause-above
next_step-step-requires-clause-above c =
    left_above c.args.net.now c.args.levels.now c.args.from.0 c.args.n c.loop-k.k c.loop-k.s c.loop-k.route c.loop-k-test.true c.loop-k.invariant

pub loop-k-preserved : goal.loop-k-preserved
loop-k-preserved c =
    subst (λ (xs : List PlanStep). IsBuilt c.args.net.now c.args.levels.now c.args.from.0 c.args.n (c.loop-k.k + 1) c.next_step-step.result.s xs)
    (sym c.in_ok-push.ensures.ok)
    (built_more c.args.net.now c.args.levels.now c.args.from.0 c.args.n c.loop-k.k c.loop-k.s c.loop-k.route c.next_step-step.result c.loop-k-test.true
    c.loop-k.invariant c.next_step-step.ensures)

pub returns : goal.returns
returns c =
    built_all c.args.net.now c.args.levels.now c.args.from.0 c.args.n c.loop-k.k c.loop-k.s c.loop-k.route (omega arith) c.loop-k.invariant
