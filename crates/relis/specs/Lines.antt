-- The lines that the program prints besides a command's own text.
use Rattle.std.specs.Prelude.{ℕ, ◌+◌, ◌*◌, List, [], ◌∷◌, ◌++◌, length, codes, decimal}
use Rattle.rl_base.specs.declared.place.Place.{Place}
use Rattle.rl_base.specs.declared.place.Place.TheVariants as place
use Rattle.rl_model.specs.declared.network.NetworkPlan.{NetworkPlan}
use Rattle.rl_model.specs.ReportText.{line_of}
use Rattle.relis.specs.declared.status.Status.{Status}
use Rattle.relis.specs.declared.status.Status.TheVariants as status

-- a key of the item at an index, as `box[3].name`
abbrev pub item_text : List ℕ → ℕ → List ℕ → List ℕ
item_text list i key = list ++ codes "[" ++ decimal i ++ codes "]" ++ key

-- an item of a list in the item at an index, as `box[3].arms[1]`
abbrev pub nested_text : List ℕ → ℕ → List ℕ → ℕ → List ℕ
nested_text list i key j = item_text list i key ++ codes "[" ++ decimal j ++ codes "]"

abbrev pub place_text : Place → List ℕ
place_text place.None = codes "none"
place_text place.Top = codes "top"
place_text place.Format = codes "format"
place_text place.Segments = codes "segments"
place_text (place.Segment i) = item_text (codes "segments") i []
place_text place.Segs = codes "segment"
place_text (place.SegItem i) = item_text (codes "segment") i []
place_text (place.SegName i) = item_text (codes "segment") i (codes ".name")
place_text (place.SegEnds i) = item_text (codes "segment") i (codes ".ends")
place_text (place.SegEnd i j) = nested_text (codes "segment") i (codes ".ends") j
place_text place.Boxes = codes "box"
place_text (place.BoxItem i) = item_text (codes "box") i []
place_text (place.BoxName i) = item_text (codes "box") i (codes ".name")
place_text (place.BoxKind i) = item_text (codes "box") i (codes ".kind")
place_text (place.BoxArms i) = item_text (codes "box") i (codes ".arms")
place_text (place.BoxArm i j) = nested_text (codes "box") i (codes ".arms") j
place_text (place.BoxSide i) = item_text (codes "box") i (codes ".at")
place_text place.Trains = codes "train"
place_text (place.TrainItem i) = item_text (codes "train") i []
place_text (place.TrainName i) = item_text (codes "train") i (codes ".name")
place_text (place.TrainRoute i) = item_text (codes "train") i (codes ".route")
place_text (place.RouteItem i j) = nested_text (codes "train") i (codes ".route") j
place_text (place.ScheduleLine n) = codes "schedule:" ++ decimal n
place_text (place.ReportLine n) = codes "report:" ++ decimal n
place_text (place.FateLine n) = codes "fates:" ++ decimal n
place_text (place.Word n) = codes "word:" ++ decimal n

abbrev pub usage_line : List ℕ
usage_line = codes "usage: relis COMMAND WORDS\n"

abbrev pub read_fault_line : List ℕ
read_fault_line = codes "read fault\n"

abbrev pub refused_line : ℕ → Place → List ℕ
refused_line number place = line_of (codes "refused" ∷ decimal number ∷ place_text place ∷ [])

abbrev pub not_safe_line : ℕ → ℕ → List ℕ
not_safe_line line guard = codes "not safe " ++ decimal line ++ codes " " ++ decimal guard ++ codes "\n"

-- the line of each status but those at which a command's own text is put, or nothing
abbrev pub status_line : Status → List ℕ
status_line status.Usage = usage_line
status_line status.ReadFault = read_fault_line
status_line (status.Refused number place) = refused_line number place
status_line (status.NotSafe line guard) = not_safe_line line guard
status_line _ = []

-- what `audit` prints of a right report
abbrev pub safe_line : ℕ → List ℕ
safe_line moves = codes "safe moves " ++ decimal moves ++ codes "\n"

-- what `check` prints of an accepted network
abbrev pub accepted_line : NetworkPlan → List ℕ
accepted_line net =
    codes "accepted segments " ++ decimal (length net.segments)
    ++ codes " boxes " ++ decimal (length net.boxes)
    ++ codes " trains " ++ decimal (length net.trains)
    ++ codes " nodes " ++ decimal (2 * length net.boxes + 2 * length net.trains)
    ++ codes "\n"
