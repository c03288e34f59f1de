-- The rules 5 to 15 of a draft, by their numbers: where it breaks them, and which refusal is the first.
use Rattle.std.specs.Prelude.{◌≡◌, ℕ, ◌+◌, ◌-◌, ◌%◌, ◌<◌, ◌==◌, nat_lt, Bool, true, false, not, ◌&&◌, ◌||◌, ◌⊎◌, if◌then◌else◌, List, length, take, map, find, slice_get, Option, is_some, is_none, option_and_then, bytes_eq}
use Rattle.std.specs.Option.{option_map_or}
use Rattle.std.specs.List.{list_any}
use Rattle.rl_base.specs.declared.kind.Kind.{Kind}
use Rattle.rl_base.specs.declared.kind.Kind.TheVariants.{Point}
use Rattle.rl_base.specs.declared.kind.Side.TheVariants.{Left, Right}
use Rattle.rl_base.specs.declared.place.Place.{Place}
use Rattle.rl_base.specs.declared.place.Place.TheVariants as place
use Rattle.rl_base.specs.declared.draft.DraftBox.{DraftBox}
use Rattle.rl_base.specs.declared.draft.DraftTrain.{DraftTrain}
use Rattle.rl_base.specs.declared.draft.Draft.{Draft}
use Rattle.rl_base.specs.declared.limits.TheConstants.{MAX_SEGMENTS, MAX_BOXES, MAX_TRAINS, MAX_ROUTE}
use Rattle.rl_base.specs.Kind.{arms_of}
use Rattle.rl_base.specs.Place.{IsNoLater}
use Rattle.rl_model.specs.Network.{joined}
use Rattle.rl_drafts.specs.Drafts.{number_in, box_names, train_names, ends_of}

-- a test of the box, the train or the name at a place, false where there is none
abbrev pub on_box : Draft → ℕ → (DraftBox → Bool) → Bool
on_box d i test = option_map_or test (slice_get d.boxes i) false

abbrev pub on_train : Draft → ℕ → (DraftTrain → Bool) → Bool
on_train d i test = option_map_or test (slice_get d.trains i) false

abbrev pub on_name : List (List ℕ) → ℕ → (List ℕ → Bool) → Bool
on_name names i test = option_map_or test (slice_get names i) false

-- the name is one of these
abbrev pub is_among : List (List ℕ) → List ℕ → Bool
is_among names name = is_some (number_in names name)

-- an earlier one of the names is the name at place i
abbrev pub is_twice : List (List ℕ) → ℕ → Bool
is_twice names i = on_name names i (is_among (take i names))

abbrev pub is_point : Kind → Bool
is_point Point = true
is_point _ = false

-- at some side the box connects the segments of these names
abbrev pub connects_names : DraftBox → Option (List ℕ) → Option (List ℕ) → Bool
connects_names x from to =
    let a = option_and_then (number_in x.arms) from in
    let c = option_and_then (number_in x.arms) to in
    joined x.kind Left a c || joined x.kind Right a c

-- the first box of that name
abbrev pub box_named : Draft → List ℕ → Option DraftBox
box_named d name = find (λ (x : DraftBox). bytes_eq x.name name) d.boxes

-- the box that is named at place j of the route connects the segments that are named before and after it
abbrev pub fits_at : Draft → List (List ℕ) → ℕ → Bool
fits_at d route j =
    option_map_or (λ x. connects_names x (slice_get route (j - 1)) (slice_get route (j + 1)))
    (option_and_then (box_named d) (slice_get route j)) false

-- the first names of the routes of the trains below i
abbrev pub starts_below : Draft → ℕ → List (Option (List ℕ))
starts_below d i = map (λ (t : DraftTrain). slice_get t.route 0) (take i d.trains)

-- one of the first names is the name
abbrev pub is_start : List (Option (List ℕ)) → List ℕ → Bool
is_start firsts name = list_any (λ first. option_map_or (λ n. bytes_eq n name) first false) firsts

-- the draft breaks the rule of that number at the place
abbrev pub breaks : Draft → ℕ → Place → Bool
breaks d n place.Segments = n == 5 && nat_lt MAX_SEGMENTS (length d.segments)
breaks d n place.Boxes = n == 5 && nat_lt MAX_BOXES (length d.boxes)
breaks d n place.Trains = n == 5 && nat_lt MAX_TRAINS (length d.trains)
breaks d n (place.Segment i) =
    if n == 6 then is_twice d.segments i
    else (n == 10 && on_name d.segments i (λ name. not (length (ends_of d name) == 2)))
breaks d n (place.BoxName i) = n == 6 && is_twice (box_names d) i
breaks d n (place.BoxArms i) = n == 7 && on_box d i (λ x. not (length x.arms == arms_of x.kind))
breaks d n (place.BoxArm i j) =
    if n == 8 then on_box d i (λ x. on_name x.arms j (λ name. not (is_among d.segments name)))
    else (n == 9 && on_box d i (λ x. is_twice x.arms j))
breaks d n (place.BoxSide i) = n == 11 && on_box d i (λ x. if is_point x.kind then is_none x.at else is_some x.at)
breaks d n (place.TrainName i) = n == 6 && is_twice (train_names d) i
breaks d n (place.TrainRoute i) =
    if n == 5 then on_train d i (λ t. nat_lt MAX_ROUTE (length t.route))
    else (n == 12 && on_train d i (λ t. length t.route % 2 == 0))
breaks d n (place.RouteItem i j) =
    if n == 13 then on_train d i
    (λ t. on_name t.route j (λ name. not (is_among (if j % 2 == 0 then d.segments else box_names d) name)))
    else (if n == 14 then on_train d i (λ t. (j % 2 == 1) && nat_lt j (length t.route) && not (fits_at d t.route j))
    else (n == 15 && (j == 0 && on_train d i (λ t. on_name t.route 0 (is_start (starts_below d i))))))
breaks d n _ = false

-- no rule is broken
abbrev pub IsAccepted : Draft → Type 0
IsAccepted d = (n : ℕ) (p : Place) → breaks d n p ≡ false

-- the draft breaks rule n at the place, no rule with a lower number is broken, and of this rule no earlier place is
pub record IsFirstRefusal (d : Draft) (n : ℕ) (p : Place) : Type 0 where
  pub broken : breaks d n p ≡ true
  pub least : (m : ℕ) (q : Place) → breaks d m q ≡ true → (n < m) ⊎ ((n ≡ m) × IsNoLater p q)
