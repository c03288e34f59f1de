-- The network as a value: who ends where, what a box connects, and what acceptance gives.
use Rattle.std.specs.Prelude.{◌≡◌, ℕ, ◌+◌, ◌<◌, ◌≤◌, ◌≢◌, ◌==◌, Bool, false, ◌||◌, if◌then◌else◌, IsTrue, List, [], length, slice_get, Option, Some, None, is_some, option_map, option_and_then}
use Rattle.std.specs.Option.{option_map_or}
use Rattle.rl_base.specs.declared.ids.SegId.{SegId}
use Rattle.rl_base.specs.declared.ids.BoxId.{BoxId}
use Rattle.rl_base.specs.declared.ids.TrainId.{TrainId}
use Rattle.rl_base.specs.declared.limits.TheConstants.{MAX_SEGMENTS, MAX_BOXES, MAX_TRAINS, MAX_STEPS}
use Rattle.rl_base.specs.declared.kind.Kind.{Kind}
use Rattle.rl_base.specs.declared.kind.Kind.TheVariants.{Buffer, Point}
use Rattle.rl_base.specs.declared.kind.Side.{Side}
use Rattle.rl_base.specs.declared.kind.Side.TheVariants.{Left, Right}
use Rattle.rl_base.specs.Kind.{arms_of, arms_join}
use Rattle.rl_base.specs.Name.{is_name}
use Rattle.rl_model.specs.declared.network.SegmentEnd.{SegmentEnd}
use Rattle.rl_model.specs.declared.network.Segment.{Segment}
use Rattle.rl_model.specs.declared.network.SwitchBox.{SwitchBox}
use Rattle.rl_model.specs.declared.network.Train.{Train}
use Rattle.rl_model.specs.declared.network.NetworkPlan.{NetworkPlan}

-- the number is that of a segment, a box or a train of the network
abbrev pub IsSegmentOf : NetworkPlan → SegId → Type 0
IsSegmentOf net s = s.0 < length net.segments

abbrev pub IsBoxOf : NetworkPlan → BoxId → Type 0
IsBoxOf net b = b.0 < length net.boxes

abbrev pub IsTrainOf : NetworkPlan → TrainId → Type 0
IsTrainOf net t = t.0 < length net.trains

-- the arm at which the segment ends at box b
abbrev pub arm_at : ℕ → Segment → Option ℕ
arm_at b g = if g.low.at.0 == b then Some g.low.arm.0 else (if g.high.at.0 == b then Some g.high.arm.0 else None)

-- the arm of segment s at box b
abbrev pub arm_of : NetworkPlan → ℕ → ℕ → Option ℕ
arm_of net s b = option_and_then (arm_at b) (slice_get net.segments s)

-- segment s is there and has an end at box b
abbrev pub has_end : NetworkPlan → ℕ → ℕ → Bool
has_end net s b = is_some (arm_of net s b)

-- the kind of box b; one that isn't there counts as a buffer, which connects nothing
abbrev pub kind_of : NetworkPlan → ℕ → Kind
kind_of net b = option_map_or (λ (x : SwitchBox). x.kind) (slice_get net.boxes b) Buffer

-- the side at which box b stands at the start
abbrev pub start_side : NetworkPlan → ℕ → Side
start_side net b = option_map_or (λ (x : SwitchBox). x.side) (slice_get net.boxes b) Left

-- both arms are there, and a box of the kind connects them
abbrev pub joined : Kind → Side → Option ℕ → Option ℕ → Bool
joined kind side (Some x) (Some y) = arms_join kind x y side
joined kind side _ _ = false

-- box b connects segments s and s2 where it stands at the side
abbrev pub connects : NetworkPlan → ℕ → ℕ → ℕ → Side → Bool
connects net b s s2 side = joined (kind_of net b) side (arm_of net s b) (arm_of net s2 b)

-- some side of box b connects segments s and s2
abbrev pub can_connect : NetworkPlan → ℕ → ℕ → ℕ → Bool
can_connect net b s s2 = connects net b s s2 Left || connects net b s s2 Right

-- the side at which box b connects segments s and s2, left where it does at both, and none where at neither
abbrev pub side_for : NetworkPlan → ℕ → ℕ → ℕ → Option Side
side_for net b s s2 = if connects net b s s2 Left then Some Left else
    (if connects net b s s2 Right then Some Right else None)

-- the segment at arm i of box b
abbrev pub segment_at : NetworkPlan → ℕ → ℕ → Option ℕ
segment_at net b i = option_and_then (λ (x : SwitchBox). option_map (λ s. s.0) (slice_get x.arms i))
    (slice_get net.boxes b)

-- the names of segment s, box b and train t
abbrev pub segment_name : NetworkPlan → ℕ → List ℕ
segment_name net s = option_map_or (λ (g : Segment). g.name) (slice_get net.segments s) []

abbrev pub box_name : NetworkPlan → ℕ → List ℕ
box_name net b = option_map_or (λ (x : SwitchBox). x.name) (slice_get net.boxes b) []

abbrev pub train_name : NetworkPlan → ℕ → List ℕ
train_name net t = option_map_or (λ (r : Train). r.name) (slice_get net.trains t) []

-- how many steps the route of train t has; one that isn't there has none
abbrev pub steps_of : NetworkPlan → ℕ → ℕ
steps_of net t = option_map_or (λ (r : Train). length r.boxes) (slice_get net.trains t) 0

-- the segment at place k of the route of train t, and the box that step k passes
abbrev pub route_segment : NetworkPlan → ℕ → ℕ → Option ℕ
route_segment net t k = option_and_then (λ (r : Train). option_map (λ s. s.0) (slice_get r.segments k))
    (slice_get net.trains t)

abbrev pub route_box : NetworkPlan → ℕ → ℕ → Option ℕ
route_box net t k = option_and_then (λ (r : Train). option_map (λ b. b.0) (slice_get r.boxes k))
    (slice_get net.trains t)

-- step k of the route of train t goes from s through b to s2
pub record IsStep (net : NetworkPlan) (t k s b s2 : ℕ) : Type 0 where
  pub from : route_segment net t k ≡ Some s
  pub through : route_box net t k ≡ Some b
  pub to : route_segment net t (k + 1) ≡ Some s2

-- the end is an arm of a box, and s is the segment at that arm
pub record IsEndOf (net : NetworkPlan) (s : ℕ) (e : SegmentEnd) : Type 0 where
  pub box : e.at.0 < length net.boxes
  pub arm : e.arm.0 < arms_of (kind_of net e.at.0)
  pub segment : segment_at net e.at.0 e.arm.0 ≡ Some s

-- each end of the segment is an arm that names it, and the first is at the box with the lower number
pub record IsSegment (net : NetworkPlan) (s : ℕ) (g : Segment) : Type 0 where
  pub low : IsEndOf net s g.low
  pub high : IsEndOf net s g.high
  pub order : g.low.at.0 < g.high.at.0
  pub name : IsTrue (is_name g.name)

-- box b has its kind's number of arms, a segment that ends there at each, and stands at left if it is no point
pub record IsBox (net : NetworkPlan) (b : ℕ) (x : SwitchBox) : Type 0 where
  pub arms : length x.arms ≡ arms_of x.kind
  pub segments : (i s : ℕ) → segment_at net b i ≡ Some s → arm_of net s b ≡ Some i
  pub side : x.kind ≢ Point → x.side ≡ Left
  pub name : IsTrue (is_name x.name)

-- a route has a segment more than boxes, not too many steps, and each step can be connected
pub record IsTrain (net : NetworkPlan) (t : ℕ) (r : Train) : Type 0 where
  pub shape : length r.segments ≡ length r.boxes + 1
  pub short : length r.boxes ≤ MAX_STEPS
  pub segments : (k s : ℕ) → route_segment net t k ≡ Some s → s < length net.segments
  pub boxes : (k b : ℕ) → route_box net t k ≡ Some b → b < length net.boxes
  pub fits : (k s b s2 : ℕ) → IsStep net t k s b s2 → IsTrue (can_connect net b s s2)
  pub name : IsTrue (is_name r.name)

-- train t starts on segment s
abbrev pub StartsOn : NetworkPlan → ℕ → ℕ → Type 0
StartsOn net t s = route_segment net t 0 ≡ Some s

-- what acceptance gives: the sizes, each part in itself, names that differ, and starts that differ
pub record IsNetwork (net : NetworkPlan) : Type 0 where
  pub few_segments : length net.segments ≤ MAX_SEGMENTS
  pub few_boxes : length net.boxes ≤ MAX_BOXES
  pub few_trains : length net.trains ≤ MAX_TRAINS
  pub segments : (s : ℕ) (g : Segment) → slice_get net.segments s ≡ Some g → IsSegment net s g
  pub boxes : (b : ℕ) (x : SwitchBox) → slice_get net.boxes b ≡ Some x → IsBox net b x
  pub trains : (t : ℕ) (r : Train) → slice_get net.trains t ≡ Some r → IsTrain net t r
  pub segment_names : (s s2 : ℕ) (g g2 : Segment) → slice_get net.segments s ≡ Some g
      → slice_get net.segments s2 ≡ Some g2 → g.name ≡ g2.name → s ≡ s2
  pub box_names : (b b2 : ℕ) (x x2 : SwitchBox) → slice_get net.boxes b ≡ Some x → slice_get net.boxes b2 ≡ Some x2
      → x.name ≡ x2.name → b ≡ b2
  pub train_names : (t t2 : ℕ) (r r2 : Train) → slice_get net.trains t ≡ Some r → slice_get net.trains t2 ≡ Some r2
      → r.name ≡ r2.name → t ≡ t2
  pub starts : (t u s : ℕ) → StartsOn net t s → StartsOn net u s → t ≡ u
