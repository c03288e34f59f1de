use Rattle.std.proofs.Common.{◌≡◌, ℕ, ◌<◌, Some}
use Rattle.rl_model.specs.Network.{segment_at}
use Rattle.rl_plan.specs.Walks.{AreNeighbours}
use Rattle.rl_plan.specs.Levels.{level_of}
use Rattle.rl_plan.specs.Rising.{RisesTo}
use Rattle.rl_plan.proofs.certificate.rises_at.Given as goal

-- the neighbours at the arms so far
abbrev pub invariant-loop-y : goal.invariant-loop-y
invariant-loop-y l = (x r : ℕ) → x < l.y → segment_at l.net l.b.0 x ≡ Some r → AreNeighbours l.net l.b.0 l.s.0 r
    → RisesTo l.n (level_of l.levels r)
