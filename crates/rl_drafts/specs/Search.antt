-- The first refusal of a draft as a search: rule by rule, and place by place in the order of places.
use Rattle.std.specs.Prelude.{ℕ, zero, suc, if◌then◌else◌, length, slice_get, Option, Some, None}
use Rattle.std.specs.Option.{option_map_or, option_or, option_map}
use Rattle.rl_base.specs.declared.place.Place.{Place}
use Rattle.rl_base.specs.declared.place.Place.TheVariants as place
use Rattle.rl_base.specs.declared.draft.DraftBox.{DraftBox}
use Rattle.rl_base.specs.declared.draft.DraftTrain.{DraftTrain}
use Rattle.rl_base.specs.declared.draft.Draft.{Draft}
use Rattle.rl_drafts.specs.Refusals.{breaks}

-- the place, if rule n is broken there
abbrev pub broken_at : Draft → ℕ → Place → Option Place
broken_at d n p = if breaks d n p then Some p else None

-- the first place that f gives below a number
abbrev pub first_below : (ℕ → Option Place) → ℕ → Option Place
first_below f zero = None
first_below f (suc k) = option_or (first_below f k) (f k)

abbrev pub arms_at : Draft → ℕ → ℕ
arms_at d i = option_map_or (λ (x : DraftBox). length x.arms) (slice_get d.boxes i) 0

abbrev pub route_length : Draft → ℕ → ℕ
route_length d i = option_map_or (λ (t : DraftTrain). length t.route) (slice_get d.trains i) 0

-- the first place at which rule n is broken among the segments, boxes or trains
abbrev pub among_segments : Draft → ℕ → Option Place
among_segments d n = first_below (λ i. broken_at d n (place.Segment i)) (length d.segments)

abbrev pub among_boxes : Draft → ℕ → (ℕ → Place) → Option Place
among_boxes d n at = first_below (λ i. broken_at d n (at i)) (length d.boxes)

abbrev pub among_trains : Draft → ℕ → (ℕ → Place) → Option Place
among_trains d n at = first_below (λ i. broken_at d n (at i)) (length d.trains)

-- among the arms of box i, or of all boxes
abbrev pub among_arms_of : Draft → ℕ → ℕ → Option Place
among_arms_of d n i = first_below (λ j. broken_at d n (place.BoxArm i j)) (arms_at d i)

abbrev pub among_arms : Draft → ℕ → Option Place
among_arms d n = first_below (among_arms_of d n) (length d.boxes)

-- among the places of the route of train i, or of all routes
abbrev pub among_places_of : Draft → ℕ → ℕ → Option Place
among_places_of d n i = first_below (λ j. broken_at d n (place.RouteItem i j)) (route_length d i)

abbrev pub among_route_places : Draft → ℕ → Option Place
among_route_places d n = first_below (among_places_of d n) (length d.trains)

-- the first place with too many items
abbrev pub first_count : Draft → Option Place
first_count d =
    option_or (broken_at d 5 place.Segments)
    (option_or (broken_at d 5 place.Boxes)
    (option_or (broken_at d 5 place.Trains) (among_trains d 5 place.TrainRoute)))

-- the first place with a name that stands twice
abbrev pub first_twice : Draft → Option Place
first_twice d =
    option_or (among_segments d 6) (option_or (among_boxes d 6 place.BoxName) (among_trains d 6 place.TrainName))

-- the number of a rule and the place at which it is broken
pub record Refusal : Type 0 where
  pub number : ℕ
  pub place : Place

-- rule n with the first place at which it is broken, and then what follows
abbrev pub refuse : ℕ → Option Place → Option Refusal → Option Refusal
refuse n first rest = option_or (option_map (λ p. record { number = n; place = p }) first) rest

-- the first refusal by a rule from 7 on
abbrev pub later_refusal : Draft → Option Refusal
later_refusal d =
    refuse 7 (among_boxes d 7 place.BoxArms)
    (refuse 8 (among_arms d 8)
    (refuse 9 (among_arms d 9)
    (refuse 10 (among_segments d 10)
    (refuse 11 (among_boxes d 11 place.BoxSide)
    (refuse 12 (among_trains d 12 place.TrainRoute)
    (refuse 13 (among_route_places d 13)
    (refuse 14 (among_route_places d 14)
    (refuse 15 (among_route_places d 15) None))))))))

-- the first refusal
abbrev pub first_refusal : Draft → Option Refusal
first_refusal d = refuse 5 (first_count d) (refuse 6 (first_twice d) (later_refusal d))
