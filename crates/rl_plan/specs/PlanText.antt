-- The text of a plan, line by line: how many steps, the route, the level of each segment that has one.
use Rattle.std.specs.Prelude.{ℕ, suc, List, [], ◌∷◌, ◌++◌, Option, Some, None, codes, decimal, flat_map}
use Rattle.rl_model.specs.declared.network.NetworkPlan.{NetworkPlan}
use Rattle.rl_model.specs.Network.{segment_name, box_name}
use Rattle.rl_model.specs.ReportText.{line_of}
use Rattle.rl_plan.specs.declared.plan.PlanStep.{PlanStep}
use Rattle.rl_plan.specs.declared.plan.Plan.{Plan}

-- the first line: from where to where, and in how many steps
abbrev pub plan_line : NetworkPlan → ℕ → ℕ → Option ℕ → List ℕ
plan_line net from to (Some n) =
    line_of (codes "plan" ∷ segment_name net from ∷ segment_name net to ∷ codes "steps" ∷ decimal n ∷ [])
plan_line net from to None = line_of (codes "plan" ∷ segment_name net from ∷ segment_name net to ∷ codes "none" ∷ [])

-- a step: its box and the segment reached, each behind a space
abbrev pub step_text : NetworkPlan → PlanStep → List ℕ
step_text net step = 32 ∷ box_name net step.b.0 ++ 32 ∷ segment_name net step.s.0

-- the line of the route, none where there is no walk
abbrev pub route_line : NetworkPlan → ℕ → Option ℕ → List PlanStep → List ℕ
route_line net from (Some n) route =
    codes "route " ++ segment_name net from ++ flat_map (step_text net) route ++ 10 ∷ []
route_line net from None route = []

-- the line of a segment, none where it has no level
abbrev pub level_line : NetworkPlan → ℕ → Option ℕ → List ℕ
level_line net s (Some n) = line_of (codes "level" ∷ segment_name net s ∷ decimal n ∷ [])
level_line net s None = []

-- the lines of the segments from number s on
abbrev pub level_lines : NetworkPlan → ℕ → List (Option ℕ) → List ℕ
level_lines net s [] = []
level_lines net s (level ∷ levels) = level_line net s level ++ level_lines net (suc s) levels

abbrev pub plan_text : NetworkPlan → ℕ → ℕ → Plan → List ℕ
plan_text net from to plan =
    plan_line net from to plan.steps
    ++ route_line net from plan.steps plan.route
    ++ level_lines net 0 plan.levels
    ++ codes "end\n"
