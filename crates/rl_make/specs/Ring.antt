-- The ring of n stations with a train at each, station by station.
use Rattle.std.specs.Prelude.{ℕ, zero, suc, ◌+◌, ◌-◌, ◌%◌, ◌==◌, codes, decimal, if◌then◌else◌, List, [], ◌∷◌, ◌++◌}
use Rattle.std.specs.Prelude.{Some, None}
use Rattle.rl_base.specs.declared.draft.Draft.{Draft}
use Rattle.rl_base.specs.declared.draft.DraftBox.{DraftBox}
use Rattle.rl_base.specs.declared.draft.DraftTrain.{DraftTrain}
use Rattle.rl_base.specs.declared.kind.Kind.TheVariants.{Joint, Point}
use Rattle.rl_base.specs.declared.kind.Side.TheVariants.{Left}
use Rattle.rl_make.specs.declared.train.TheConstants.{LEGS}

-- the segments of station i: its two platforms, the middle behind them, and the line to the next station
abbrev pub upper : ℕ → List ℕ
upper i = codes "U" ++ decimal i

abbrev pub lower : ℕ → List ℕ
lower i = codes "D" ++ decimal i

abbrev pub middle : ℕ → List ℕ
middle i = codes "M" ++ decimal i

abbrev pub line : ℕ → List ℕ
line i = codes "L" ++ decimal i

-- its boxes: the point before the platforms, the point behind them, and the joint from the middle to the line
abbrev pub entry : ℕ → List ℕ
entry i = codes "P" ++ decimal i

abbrev pub exit : ℕ → List ℕ
exit i = codes "Q" ++ decimal i

abbrev pub joint : ℕ → List ℕ
joint i = codes "J" ++ decimal i

-- the station before station i in a ring of n, and the one after it
abbrev pub station_before : ℕ → ℕ → ℕ
station_before n i = if i == 0 then n - 1 else i - 1

abbrev pub station_after : ℕ → ℕ → ℕ
station_after n i = if i + 1 == n then 0 else i + 1

abbrev pub segments_of : ℕ → List (List ℕ)
segments_of i = upper i ∷ lower i ∷ middle i ∷ line i ∷ []

-- a point at left, with its stem and its two branches, and a joint
abbrev pub point_box : List ℕ → List ℕ → List ℕ → List ℕ → DraftBox
point_box name stem left right = record { name = name; kind = Point; arms = stem ∷ left ∷ right ∷ []; at = Some Left }

abbrev pub joint_box : List ℕ → List ℕ → List ℕ → DraftBox
joint_box name one other = record { name = name; kind = Joint; arms = one ∷ other ∷ []; at = None }

abbrev pub boxes_of : ℕ → ℕ → List DraftBox
boxes_of n i =
    point_box (entry i) (line (station_before n i)) (upper i) (lower i)
    ∷ point_box (exit i) (middle i) (upper i) (lower i)
    ∷ joint_box (joint i) (middle i) (line i)
    ∷ []

-- the platform of train i at station h: trains of even numbers take the upper one
abbrev pub platform : ℕ → ℕ → List ℕ
platform i h = if i % 2 == 0 then upper h else lower h

-- the names that train i passes from its platform at station h to the one at the next
abbrev pub leg : ℕ → ℕ → ℕ → List (List ℕ)
leg n i h = exit h ∷ middle h ∷ joint h ∷ line h ∷ entry (station_after n h) ∷ platform i (station_after n h) ∷ []

-- and so many stations on
unfoldable pub legs : ℕ → ℕ → ℕ → ℕ → List (List ℕ)
legs n i zero h = []
legs n i (suc k) h = leg n i h ++ legs n i k (station_after n h)

-- train i starts at its platform of station i and goes on to as many stations as it has legs
abbrev pub train_of : ℕ → ℕ → DraftTrain
train_of n i = record { name = codes "T" ++ decimal i; route = platform i i ∷ legs n i LEGS i }

-- what f gives for each number below n, in order
abbrev pub each : {A : Type 0} → (ℕ → List A) → ℕ → List A
each f zero = []
each f (suc n) = each f n ++ f n

abbrev pub ring : ℕ → Draft
ring n =
    record { segments = each segments_of n; boxes = each (boxes_of n) n; trains = each (λ i. train_of n i ∷ []) n }
