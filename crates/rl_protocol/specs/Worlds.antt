-- The world of a state: what the words say of trains, segments and boxes of a network.
use Rattle.std.specs.Prelude.{◌≡◌, ℕ, ◌+◌, ◌<◌, ◌==◌, Bool, false, ◌&&◌, ◌||◌, if◌then◌else◌, Option, Some, None}
use Rattle.std.specs.Prelude.{unwrap_or}
use Rattle.std.specs.Option.{option_map_or}
use Rattle.rl_base.specs.declared.kind.Kind.{Kind}
use Rattle.rl_base.specs.declared.kind.Kind.TheVariants.{Buffer, Joint, Point, Crossing}
use Rattle.rl_base.specs.declared.kind.Side.{Side}
use Rattle.rl_base.specs.declared.kind.Side.TheVariants.{Left}
use Rattle.rl_base.specs.Kind.{joining_side}
use Rattle.rl_model.specs.declared.moves.Points.{Points}
use Rattle.rl_model.specs.declared.moves.Points.TheVariants as points
use Rattle.rl_model.specs.declared.network.NetworkPlan.{NetworkPlan}
use Rattle.rl_model.specs.Network.{kind_of, start_side, segment_at, arm_of, steps_of, route_segment, route_box, IsStep}
use Rattle.rl_model.specs.Network.{IsNetwork}
use Rattle.rl_model.specs.World.{World, points_at}
use Rattle.rl_words.specs.declared.lock.LockWord.{LockWord}
use Rattle.rl_words.specs.declared.lock.LockWord.TheVariants.{Free, Asked, Moving, Moved, Locked}
use Rattle.rl_words.specs.declared.lock.Path.{Path}
use Rattle.rl_words.specs.declared.run.RunWord.{RunWord}
use Rattle.rl_words.specs.declared.run.RunWord.TheVariants.{Clear, Go, Across}
use Rattle.rl_box.specs.Steps.{other_side}
use Rattle.rl_protocol.specs.Line.{Line, is_number, same_number, is_held_by, IsConsistent}
use Rattle.rl_protocol.specs.State.{State}

-- the line is that of the network: the kinds and sides of its boxes, the segments at their arms, and the routes
pub record IsLineOf (net : NetworkPlan) (line : Line) : Type 0 where
  pub kind : (b : ℕ) → line.kind b ≡ kind_of net b
  pub side : (b : ℕ) → line.side b ≡ start_side net b
  pub segment : (b x : ℕ) → segment_at net b x ≡ (if line.has_arm b x then Some (line.segment b x).0 else None)
  pub steps : (t : ℕ) → line.steps t ≡ steps_of net t
  pub rows : (t k : ℕ) → k < line.steps t → let row = line.row t k in IsStep net t k row.s.0 row.b.0 row.s2.0
  pub ends : (t k b x : ℕ) → line.ends t k b x ≡ same_number (segment_at net b x) (route_segment net t k)

-- a network, and a consistent line of it
pub record IsRailway (net : NetworkPlan) (line : Line) : Type 0 where
  pub network : IsNetwork net
  pub line_is : IsLineOf net line
  pub consistent : IsConsistent line

-- a train whose route has these segments occupies the one that its run word names, and the next one too while it is
-- across the box between them
abbrev pub stands_on : (segments : ℕ → Option ℕ) → RunWord → ℕ → Bool
stands_on segments (Clear k) s = is_number (segments k) s
stands_on segments (Go k) s = is_number (segments k) s
stands_on segments (Across k) s = is_number (segments k) s || is_number (segments (k + 1)) s

abbrev pub is_across : (segments boxes : ℕ → Option ℕ) → RunWord → (b from to : ℕ) → Bool
is_across segments boxes (Clear k) b from to = false
is_across segments boxes (Go k) b from to = false
is_across segments boxes (Across k) b from to =
    is_number (boxes k) b && is_number (segments k) from && is_number (segments (k + 1)) to

-- and has made as many steps
abbrev pub steps_made : RunWord → ℕ
steps_made (Clear k) = k
steps_made (Go k) = k
steps_made (Across k) = k

-- the path of a lock, between the segments at its arms
abbrev pub is_passage : (segments : ℕ → Option ℕ) → Path → (t from to : ℕ) → Bool
is_passage segments p t from to = p.train.0 == t && is_number (segments p.x.0) from && is_number (segments p.y.0) to

-- the lock of a box with these segments at its arms
abbrev pub locks : (segments : ℕ → Option ℕ) → LockWord → (t from to : ℕ) → Bool
locks segments (Free side) t from to = false
locks segments (Asked p) t from to = is_passage segments p t from to
locks segments (Moving p) t from to = is_passage segments p t from to
locks segments (Moved p) t from to = is_passage segments p t from to
locks segments (Locked p) t from to = is_passage segments p t from to

-- a point stands at the side, and any other box at left
abbrev pub standing : Kind → Side → Points
standing Point side = points_at side
standing Buffer side = points.Left
standing Joint side = points.Left
standing Crossing side = points.Left

-- points move at a point alone
abbrev pub moving : Kind → Points
moving Point = points.Moving
moving Buffer = points.Left
moving Joint = points.Left
moving Crossing = points.Left

-- the side at which a box of the kind connects the path
abbrev pub side_of_path : Kind → Path → Side
side_of_path kind p = unwrap_or (joining_side kind p.x.0 p.y.0) Left

-- while the points are asked for they stand at the other side still
abbrev pub points_in : Kind → LockWord → Points
points_in kind (Free side) = standing kind side
points_in kind (Asked p) = standing kind (other_side (side_of_path kind p))
points_in kind (Moving p) = moving kind
points_in kind (Moved p) = standing kind (side_of_path kind p)
points_in kind (Locked p) = standing kind (side_of_path kind p)

abbrev pub world_at : NetworkPlan → State → World
world_at net s =
    record {
      occupies = λ t segment. stands_on (route_segment net t) (s.run t) segment;
      across = λ t b from to. is_across (route_segment net t) (route_box net t) (s.run t) b from to;
      holds = λ t segment b. option_map_or (λ x. is_held_by t (s.resv b x)) (arm_of net segment b) false;
      locked = λ b t from to. locks (segment_at net b) (s.lock b) t from to;
      points = λ b. points_in (kind_of net b) (s.lock b);
      made = λ t. steps_made (s.run t);
    }
