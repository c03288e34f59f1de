-- The order of places in a network text of either format. A place that holds others comes right before them.
use Rattle.std.specs.Prelude.{◌≡◌, ℕ, ◌==◌, nat_lt, Bool, true, false, ◌&&◌, ◌||◌, List, [], ◌∷◌}
use Rattle.rl_base.specs.declared.place.Place.{Place}
use Rattle.rl_base.specs.declared.place.Place.TheVariants as place

-- where a place stands: its number at the top, the index of its item there, its number in the item, its index there
abbrev pub place_key : Place → List ℕ
place_key place.None = 0 ∷ []
place_key place.Top = 1 ∷ []
place_key place.Format = 2 ∷ []
place_key place.Segments = 3 ∷ []
place_key (place.Segment i) = 3 ∷ i ∷ []
place_key place.Segs = 4 ∷ []
place_key (place.SegItem i) = 4 ∷ i ∷ []
place_key (place.SegName i) = 4 ∷ i ∷ 0 ∷ []
place_key (place.SegEnds i) = 4 ∷ i ∷ 1 ∷ []
place_key (place.SegEnd i j) = 4 ∷ i ∷ 1 ∷ j ∷ []
place_key place.Boxes = 5 ∷ []
place_key (place.BoxItem i) = 5 ∷ i ∷ []
place_key (place.BoxName i) = 5 ∷ i ∷ 0 ∷ []
place_key (place.BoxKind i) = 5 ∷ i ∷ 1 ∷ []
place_key (place.BoxArms i) = 5 ∷ i ∷ 2 ∷ []
place_key (place.BoxArm i j) = 5 ∷ i ∷ 2 ∷ j ∷ []
place_key (place.BoxSide i) = 5 ∷ i ∷ 3 ∷ []
place_key place.Trains = 6 ∷ []
place_key (place.TrainItem i) = 6 ∷ i ∷ []
place_key (place.TrainName i) = 6 ∷ i ∷ 0 ∷ []
place_key (place.TrainRoute i) = 6 ∷ i ∷ 1 ∷ []
place_key (place.RouteItem i j) = 6 ∷ i ∷ 1 ∷ j ∷ []
place_key (place.ScheduleLine n) = 7 ∷ n ∷ []
place_key (place.ReportLine n) = 8 ∷ n ∷ []
place_key (place.FateLine n) = 9 ∷ n ∷ []
place_key (place.Word n) = 10 ∷ n ∷ []

-- the first key isn't after the second: they are compared number by number, and a beginning comes before its whole
abbrev pub is_no_later : List ℕ → List ℕ → Bool
is_no_later [] ys = true
is_no_later (x ∷ xs) [] = false
is_no_later (x ∷ xs) (y ∷ ys) = nat_lt x y || (x == y && is_no_later xs ys)

-- place p isn't after place q
abbrev pub IsNoLater : Place → Place → Type 0
IsNoLater p q = is_no_later (place_key p) (place_key q) ≡ true
