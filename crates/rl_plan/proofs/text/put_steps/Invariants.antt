use Rattle.std.proofs.Common.{◌≡◌, ◌++◌, take, flat_map}
use Rattle.rl_plan.specs.PlanText.{step_text}
use Rattle.rl_plan.proofs.text.put_steps.Given as goal

-- the steps before have been appended
abbrev pub invariant-loop-step : goal.invariant-loop-step
invariant-loop-step l = l.out ≡ l.initial.out ++ flat_map (step_text l.net) (take l.step-index l.route)
