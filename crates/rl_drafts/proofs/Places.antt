-- Where each rule can be broken, and that its search answers the first such place.
use Rattle.std.proofs.Common.{◌≡◌, ℕ, ◌<◌, Bool, true, false, eqb, List, length, map, slice_get, Option, Some, None, ◌⊎◌, inl, inr, refl, sym, subst, subst₂}
use Rattle.std.proofs.lemmas.Bool.{false≢true, or_left, and_parts, eqb-true, ltb-true, lt-ltb}
use Rattle.std.proofs.lemmas.List.{length-map}
use Rattle.std.proofs.lemmas.Option.{slice_get_within}
use Rattle.std.specs.Option.{option_map_or}
use Rattle.rl_base.specs.declared.place.Place.{Place}
use Rattle.rl_base.specs.declared.place.Place.TheVariants as place
use Rattle.rl_base.specs.declared.draft.DraftBox.{DraftBox}
use Rattle.rl_base.specs.declared.draft.DraftTrain.{DraftTrain}
use Rattle.rl_base.specs.declared.draft.Draft.{Draft}
use Rattle.rl_drafts.specs.Refusals.{breaks}
use Rattle.rl_drafts.specs.Search.{first_count, first_twice, among_segments, among_boxes, among_trains, among_arms, among_route_places, arms_at, route_length}
use Rattle.rl_drafts.proofs.Search.{Finds, Finds-one, Finds-or, Finds-row, Finds-grid, Finds-all, Below}
use Rattle.rl_base.specs.Place.{IsNoLater}
use Rattle.rl_base.proofs.PlaceOrder.{last_number}

-- a test that passes on what there is: there is something, and the test passes on it
pub on_some : {X : Type 0} (test : X → Bool) (o : Option X) → option_map_or test o false ≡ true → (x : X) × (o ≡ Some x) × (test x ≡ true)
on_some test None e = absurd (false≢true e)
on_some test (Some x) e = (x, refl, e)

-- a test that passes on the item at i: i is within the list
pub on_within : {X : Type 0} (test : X → Bool) (xs : List X) (i : ℕ) → option_map_or test (slice_get xs i) false ≡ true → i < length xs
on_within test xs i e = let h = on_some test (slice_get xs i) e in slice_get_within xs i h.0 h.1

-- places of a row
abbrev Row : (ℕ → Place) → ℕ → Place → Type 0
Row at n = Below (λ i q. q ≡ at i) n

-- places of the arms of boxes
abbrev Arms : Draft → Place → Type 0
Arms d = Below (λ i. Below (λ j q. q ≡ place.BoxArm i j) (arms_at d i)) (length d.boxes)

-- places of the routes of trains
abbrev RoutePlaces : Draft → Place → Type 0
RoutePlaces d = Below (λ i. Below (λ j q. q ≡ place.RouteItem i j) (route_length d i)) (length d.trains)

-- a search among the segments
Finds-segments : (d : Draft) (n : ℕ) → Finds (breaks d n) (Row place.Segment (length d.segments)) (among_segments d n)
Finds-segments d n = Finds-row (breaks d n) place.Segment (λ i j l. or_left _ _ (lt-ltb i j l)) (length d.segments)

-- among the names of boxes
Finds-box_names : (d : Draft) (n : ℕ) → Finds (breaks d n) (Row place.BoxName (length d.boxes)) (among_boxes d n place.BoxName)
Finds-box_names d n = Finds-row (breaks d n) place.BoxName (λ i j l. or_left _ _ (lt-ltb i j l)) (length d.boxes)

-- among the lists of arms
Finds-box_arms : (d : Draft) (n : ℕ) → Finds (breaks d n) (Row place.BoxArms (length d.boxes)) (among_boxes d n place.BoxArms)
Finds-box_arms d n = Finds-row (breaks d n) place.BoxArms (λ i j l. or_left _ _ (lt-ltb i j l)) (length d.boxes)

-- among the sides
Finds-box_sides : (d : Draft) (n : ℕ) → Finds (breaks d n) (Row place.BoxSide (length d.boxes)) (among_boxes d n place.BoxSide)
Finds-box_sides d n = Finds-row (breaks d n) place.BoxSide (λ i j l. or_left _ _ (lt-ltb i j l)) (length d.boxes)

-- among the names of trains
Finds-train_names : (d : Draft) (n : ℕ) → Finds (breaks d n) (Row place.TrainName (length d.trains)) (among_trains d n place.TrainName)
Finds-train_names d n = Finds-row (breaks d n) place.TrainName (λ i j l. or_left _ _ (lt-ltb i j l)) (length d.trains)

-- among the routes
Finds-routes : (d : Draft) (n : ℕ) → Finds (breaks d n) (Row place.TrainRoute (length d.trains)) (among_trains d n place.TrainRoute)
Finds-routes d n = Finds-row (breaks d n) place.TrainRoute (λ i j l. or_left _ _ (lt-ltb i j l)) (length d.trains)

-- among the arms
Finds-arms : (d : Draft) (n : ℕ) → Finds (breaks d n) (Arms d) (among_arms d n)
Finds-arms d n = Finds-grid (breaks d n) place.BoxArm last_number (λ i i2 j j2 l. or_left _ _ (lt-ltb i i2 l)) (arms_at d) (length d.boxes)

-- among the places of routes
Finds-route_places : (d : Draft) (n : ℕ) → Finds (breaks d n) (RoutePlaces d) (among_route_places d n)
Finds-route_places d n = Finds-grid (breaks d n) place.RouteItem last_number (λ i i2 j j2 l. or_left _ _ (lt-ltb i i2 l)) (route_length d) (length d.trains)

-- an arm at which a test of the box passes that reads the arm is an arm of the draft
arm_there : (d : Draft) (i j : ℕ) (x : DraftBox) → slice_get d.boxes i ≡ Some x → j < length x.arms → Arms d (place.BoxArm i j)
arm_there d i j x e l =
    (i, slice_get_within d.boxes i x e, (j, subst (λ (o : Option DraftBox). j < option_map_or (λ (x : DraftBox). length x.arms) o 0) (sym e) l, refl))

-- and likewise at a place of a route
route_place_there : (d : Draft) (i j : ℕ) (t : DraftTrain) → slice_get d.trains i ≡ Some t → j < length t.route → RoutePlaces d (place.RouteItem i j)
route_place_there d i j t e l =
    (i, slice_get_within d.trains i t e, (j, subst (λ (o : Option DraftTrain). j < option_map_or (λ (t : DraftTrain). length t.route) o 0) (sym e) l, refl))

-- where a count can be broken
abbrev CountPlaces : Draft → Place → Type 0
CountPlaces d q = (q ≡ place.Segments) ⊎ ((q ≡ place.Boxes) ⊎ ((q ≡ place.Trains) ⊎ Row place.TrainRoute (length d.trains) q))

-- a count is broken at one of these
where_count : (d : Draft) (q : Place) → breaks d 5 q ≡ true → CountPlaces d q
where_count d place.Segments h = inl refl
where_count d place.Boxes h = inr (inl refl)
where_count d place.Trains h = inr (inr (inl refl))
where_count d (place.TrainRoute i) h = inr (inr (inr (i, on_within _ d.trains i h, refl)))
where_count d _ h = absurd (false≢true h)

-- where a name can be there twice
abbrev TwicePlaces : Draft → Place → Type 0
TwicePlaces d q = Row place.Segment (length d.segments) q ⊎ (Row place.BoxName (length d.boxes) q ⊎ Row place.TrainName (length d.trains) q)

-- a name is there twice at one of these
where_twice : (d : Draft) (q : Place) → breaks d 6 q ≡ true → TwicePlaces d q
where_twice d (place.Segment i) h = inl (i, on_within _ d.segments i h, refl)
where_twice d (place.BoxName i) h =
    inr (inl (i, subst (λ (n : ℕ). i < n) (length-map d.boxes (λ (x : DraftBox). x.name)) (on_within _ (map (λ (x : DraftBox). x.name) d.boxes) i h), refl))
where_twice d (place.TrainName i) h =
    inr (inr (
      i,
      subst (λ (n : ℕ). i < n) (length-map d.trains (λ (t : DraftTrain). t.name))
          (on_within _ (map (λ (t : DraftTrain). t.name) d.trains) i h),
      refl,
    ))
where_twice d _ h = absurd (false≢true h)

-- a number of arms is broken at a list of arms
where_arm_count : (d : Draft) (q : Place) → breaks d 7 q ≡ true → Row place.BoxArms (length d.boxes) q
where_arm_count d (place.BoxArms i) h = (i, on_within _ d.boxes i h, refl)
where_arm_count d _ h = absurd (false≢true h)

-- a segment is missing at an arm
where_no_segment : (d : Draft) (q : Place) → breaks d 8 q ≡ true → Arms d q
where_no_segment d (place.BoxArm i j) h =
    let x = on_some _ (slice_get d.boxes i) h in
    arm_there d i j x.0 x.1 (on_within _ x.0.arms j x.2)
where_no_segment d _ h = absurd (false≢true h)

-- a segment comes again at an arm
where_same_box : (d : Draft) (q : Place) → breaks d 9 q ≡ true → Arms d q
where_same_box d (place.BoxArm i j) h =
    let x = on_some _ (slice_get d.boxes i) h in
    arm_there d i j x.0 x.1 (on_within _ x.0.arms j x.2)
where_same_box d _ h = absurd (false≢true h)

-- the ends are broken at a segment
where_ends : (d : Draft) (q : Place) → breaks d 10 q ≡ true → Row place.Segment (length d.segments) q
where_ends d (place.Segment i) h = (i, on_within _ d.segments i h, refl)
where_ends d _ h = absurd (false≢true h)

-- a side is broken at a side
where_at : (d : Draft) (q : Place) → breaks d 11 q ≡ true → Row place.BoxSide (length d.boxes) q
where_at d (place.BoxSide i) h = (i, on_within _ d.boxes i h, refl)
where_at d _ h = absurd (false≢true h)

-- the shape is broken at a route
where_route_shape : (d : Draft) (q : Place) → breaks d 12 q ≡ true → Row place.TrainRoute (length d.trains) q
where_route_shape d (place.TrainRoute i) h = (i, on_within _ d.trains i h, refl)
where_route_shape d _ h = absurd (false≢true h)

-- a name is missing at a place of a route
where_route_name : (d : Draft) (q : Place) → breaks d 13 q ≡ true → RoutePlaces d q
where_route_name d (place.RouteItem i j) h =
    let t = on_some _ (slice_get d.trains i) h in
    route_place_there d i j t.0 t.1 (on_within _ t.0.route j t.2)
where_route_name d _ h = absurd (false≢true h)

-- a step does not fit at a place of a route
where_route_fit : (d : Draft) (q : Place) → breaks d 14 q ≡ true → RoutePlaces d q
where_route_fit d (place.RouteItem i j) h =
    let t = on_some _ (slice_get d.trains i) h in
    let odd_within = (and_parts _ _ t.2).0 in
    route_place_there d i j t.0 t.1 (ltb-true j (length t.0.route) (and_parts _ _ odd_within).1)
where_route_fit d _ h = absurd (false≢true h)

-- a start is shared at a place of a route
where_start_shared : (d : Draft) (q : Place) → breaks d 15 q ≡ true → RoutePlaces d q
where_start_shared d (place.RouteItem i j) h =
    let parts = and_parts (eqb j 0) _ h in
    let t = on_some _ (slice_get d.trains i) parts.1 in
    route_place_there d i j t.0 t.1 (subst (λ (k : ℕ). k < length t.0.route) (sym (eqb-true j 0 parts.0)) (on_within _ t.0.route 0 t.2))
where_start_shared d _ h = absurd (false≢true h)

-- equal places stand in the same order
same_order : {p q : Place} (x y : Place) → p ≡ x → q ≡ y → IsNoLater x y → IsNoLater p q
same_order x y a b h = subst₂ (λ (v w : Place). IsNoLater v w) (sym a) (sym b) h

-- the places come in the order in which they are searched: the segments first
segments_first : (d : Draft) (p q : Place) → p ≡ place.Segments → (q ≡ place.Boxes) ⊎ ((q ≡ place.Trains) ⊎ Row place.TrainRoute (length d.trains) q)
    → IsNoLater p q
segments_first d p q a (inl b) = same_order place.Segments place.Boxes a b refl
segments_first d p q a (inr (inl b)) = same_order place.Segments place.Trains a b refl
segments_first d p q a (inr (inr b)) = same_order place.Segments (place.TrainRoute b.0) a b.2 refl

-- then the boxes
boxes_first : (d : Draft) (p q : Place) → p ≡ place.Boxes → (q ≡ place.Trains) ⊎ Row place.TrainRoute (length d.trains) q → IsNoLater p q
boxes_first d p q a (inl b) = same_order place.Boxes place.Trains a b refl
boxes_first d p q a (inr b) = same_order place.Boxes (place.TrainRoute b.0) a b.2 refl

-- then the trains
trains_first : (d : Draft) (p q : Place) → p ≡ place.Trains → Row place.TrainRoute (length d.trains) q → IsNoLater p q
trains_first d p q a b = same_order place.Trains (place.TrainRoute b.0) a b.2 refl

-- the names of segments come first
segment_names_first : (d : Draft) (p q : Place) → Row place.Segment (length d.segments) p
    → Row place.BoxName (length d.boxes) q ⊎ Row place.TrainName (length d.trains) q → IsNoLater p q
segment_names_first d p q a (inl b) = same_order (place.Segment a.0) (place.BoxName b.0) a.2 b.2 refl
segment_names_first d p q a (inr b) = same_order (place.Segment a.0) (place.TrainName b.0) a.2 b.2 refl

-- then those of boxes
box_names_first : (d : Draft) (p q : Place) → Row place.BoxName (length d.boxes) p → Row place.TrainName (length d.trains) q → IsNoLater p q
box_names_first d p q a b = same_order (place.BoxName a.0) (place.TrainName b.0) a.2 b.2 refl

-- the search of the first rule
Finds-count : (d : Draft) → Finds (breaks d 5) (CountPlaces d) (first_count d)
Finds-count d =
    let at = breaks d 5 in
    Finds-or at _ _ _ _ (Finds-one at place.Segments)
    (Finds-or at _ _ _ _ (Finds-one at place.Boxes)
    (Finds-or at _ _ _ _ (Finds-one at place.Trains) (Finds-routes d 5) (trains_first d))
    (boxes_first d))
    (segments_first d)

-- and of the second
Finds-twice : (d : Draft) → Finds (breaks d 6) (TwicePlaces d) (first_twice d)
Finds-twice d =
    let at = breaks d 6 in
    Finds-or at _ _ _ _ (Finds-segments d 6)
    (Finds-or at _ _ _ _ (Finds-box_names d 6) (Finds-train_names d 6) (box_names_first d))
    (segment_names_first d)

-- a search answers the first place at which rule n is broken
abbrev pub AnswersRule : Draft → ℕ → Option Place → Type 0
AnswersRule d n first = Finds (breaks d n) (λ q. Unit {0}) first

-- each search does
pub rule_5 : (d : Draft) → AnswersRule d 5 (first_count d)
rule_5 d = Finds-all _ _ _ (Finds-count d) (where_count d)

pub rule_6 : (d : Draft) → AnswersRule d 6 (first_twice d)
rule_6 d = Finds-all _ _ _ (Finds-twice d) (where_twice d)

pub rule_7 : (d : Draft) → AnswersRule d 7 (among_boxes d 7 place.BoxArms)
rule_7 d = Finds-all _ _ _ (Finds-box_arms d 7) (where_arm_count d)

pub rule_8 : (d : Draft) → AnswersRule d 8 (among_arms d 8)
rule_8 d = Finds-all _ _ _ (Finds-arms d 8) (where_no_segment d)

pub rule_9 : (d : Draft) → AnswersRule d 9 (among_arms d 9)
rule_9 d = Finds-all _ _ _ (Finds-arms d 9) (where_same_box d)

pub rule_10 : (d : Draft) → AnswersRule d 10 (among_segments d 10)
rule_10 d = Finds-all _ _ _ (Finds-segments d 10) (where_ends d)

pub rule_11 : (d : Draft) → AnswersRule d 11 (among_boxes d 11 place.BoxSide)
rule_11 d = Finds-all _ _ _ (Finds-box_sides d 11) (where_at d)

pub rule_12 : (d : Draft) → AnswersRule d 12 (among_trains d 12 place.TrainRoute)
rule_12 d = Finds-all _ _ _ (Finds-routes d 12) (where_route_shape d)

pub rule_13 : (d : Draft) → AnswersRule d 13 (among_route_places d 13)
rule_13 d = Finds-all _ _ _ (Finds-route_places d 13) (where_route_name d)

pub rule_14 : (d : Draft) → AnswersRule d 14 (among_route_places d 14)
rule_14 d = Finds-all _ _ _ (Finds-route_places d 14) (where_route_fit d)

pub rule_15 : (d : Draft) → AnswersRule d 15 (among_route_places d 15)
rule_15 d = Finds-all _ _ _ (Finds-route_places d 15) (where_start_shared d)
