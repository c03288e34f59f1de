-- The world: who is where, who holds what, and how the points stand. A set is a test of its elements.
use Rattle.std.specs.Prelude.{ℕ, ◌==◌, Bool, false, ◌&&◌}
use Rattle.std.specs.Option.{option_map_or}
use Rattle.rl_base.specs.declared.kind.Side.{Side}
use Rattle.rl_base.specs.declared.kind.Side.TheVariants.{Left, Right}
use Rattle.rl_model.specs.declared.moves.Points.{Points}
use Rattle.rl_model.specs.declared.moves.Points.TheVariants as points
use Rattle.rl_model.specs.declared.network.NetworkPlan.{NetworkPlan}
use Rattle.rl_model.specs.Network.{has_end, route_segment, start_side, connects}

pub record World : Type 0 where
  pub occupies : ℕ → ℕ → Bool  -- train, segment
  pub across : ℕ → ℕ → ℕ → ℕ → Bool  -- train, box, from segment, to segment
  pub holds : ℕ → ℕ → ℕ → Bool  -- train, segment, box
  pub locked : ℕ → ℕ → ℕ → ℕ → Bool  -- box, train, from segment, to segment
  pub points : ℕ → Points  -- box
  pub made : ℕ → ℕ  -- train

-- points that stand at the side
abbrev pub points_at : Side → Points
points_at Left = points.Left
points_at Right = points.Right

-- train t starts on segment s
abbrev pub starts_on : NetworkPlan → ℕ → ℕ → Bool
starts_on net t s = option_map_or (λ first. first == s) (route_segment net t 0) false

-- at the start each train occupies the first segment of its route and holds it at both its ends
abbrev pub start : NetworkPlan → World
start net =
    record {
      occupies = starts_on net;
      across = λ t b from to. false;
      holds = λ t s b. starts_on net t s && has_end net s b;
      locked = λ b t from to. false;
      points = λ b. points_at (start_side net b);
      made = λ t. 0;
    }

-- points that stand so connect s and s2 at box b; moving points connect nothing
abbrev pub points_connect : NetworkPlan → ℕ → ℕ → ℕ → Points → Bool
points_connect net b s s2 points.Left = connects net b s s2 Left
points_connect net b s s2 points.Right = connects net b s s2 Right
points_connect net b s s2 points.Moving = false
