use Rattle.std.proofs.Common.{drop, ◌↔◌}
use Rattle.rl_model.specs.Network.{IsSegmentOf}
use Rattle.rl_plan.specs.Walks.{IsWalk}
use Rattle.rl_plan.proofs.certificate.is_walk.Given as goal

-- the segment reached is there, and from it the steps that are left lead on exactly where all of them lead from the first
abbrev pub invariant-loop-step : goal.invariant-loop-step
invariant-loop-step l = IsSegmentOf l.net l.s
    × (IsWalk l.net l.to.0 l.fn.from.0 l.steps ↔ IsWalk l.net l.to.0 l.s.0 (drop l.step-index l.steps))
