use Rattle.std.proofs.Common.{◌≡◌, ℕ, ◌<◌, Some}
use Rattle.rl_model.specs.Network.{segment_at}
use Rattle.rl_plan.specs.Walks.{AreNeighbours}
use Rattle.rl_plan.specs.Marking.{IsGrown, IsMarked}
use Rattle.rl_plan.proofs.marking.mark_through.Given as goal

-- what the neighbours at the arms so far changed
abbrev pub invariant-loop-y : goal.invariant-loop-y
invariant-loop-y l = IsGrown l.net l.n l.more l.initial.levels l.levels
    × ((x r : ℕ) → x < l.y → segment_at l.net l.b.0 x ≡ Some r → AreNeighbours l.net l.b.0 l.s.0 r → IsMarked l.levels r)
