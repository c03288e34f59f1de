-- What holds of a draft of which no rule is broken, in plain facts.
use Rattle.std.proofs.Common.{◌≡◌, ℕ, suc, ◌*◌, ◌%◌, ◌<◌, ◌≤◌, ◌≢◌, Bool, true, false, cond, not, eqb, ltb, ◌&&◌, List, length, take, slice_get, is_some, is_none, bytes_eq, unwrap_or, Option, Some, None, refl, sym, ap, ◌∙◌, subst, arith}
use Rattle.std.proofs.lemmas.Bool.{false≢true, both_ways, not-false, ltb-false, eqb-true, eqb-false, eq-eqb, ne_eqb, lt-ltb}
use Rattle.std.specs.Option.{option_map_or}
use Rattle.rl_base.specs.declared.limits.TheConstants.{MAX_SEGMENTS, MAX_BOXES, MAX_TRAINS, MAX_ROUTE}
use Rattle.rl_base.specs.declared.kind.Kind.{Kind}
use Rattle.rl_base.specs.declared.kind.Kind.TheVariants.{Buffer, Joint, Point, Crossing}
use Rattle.rl_base.specs.declared.kind.Side.{Side}
use Rattle.rl_base.specs.declared.kind.Side.TheVariants.{Left}
use Rattle.rl_base.specs.declared.place.Place.TheVariants as place
use Rattle.rl_base.specs.declared.draft.DraftBox.{DraftBox}
use Rattle.rl_base.specs.declared.draft.DraftTrain.{DraftTrain}
use Rattle.rl_base.specs.declared.draft.Draft.{Draft}
use Rattle.rl_base.specs.Kind.{arms_of}
use Rattle.rl_drafts.specs.Drafts.{number_in, box_names, train_names, ends_of}
use Rattle.rl_drafts.specs.Refusals.{IsAccepted, is_among, is_twice, is_point, is_start, starts_below, fits_at, on_name}
use Rattle.rl_drafts.proofs.Lookups.{test_fails, some_value, any_from, item_mapped, item_before}
use Rattle.rl_drafts.proofs.Numbers.{AreDistinct, AreDistinct-from_twice, bytes_eq_from_same}

-- arm i of box b has the name
pub record IsArm (d : Draft) (b i : ℕ) (name : List ℕ) : Type 0 where
  pub item : DraftBox
  pub box : slice_get d.boxes b ≡ Some item
  pub arm : slice_get item.arms i ≡ Some name

-- place k of the route of train t has the name
pub record IsRoutePlace (d : Draft) (t k : ℕ) (name : List ℕ) : Type 0 where
  pub item : DraftTrain
  pub train : slice_get d.trains t ≡ Some item
  pub place : slice_get item.route k ≡ Some name

-- the sizes, the names, the boxes and the routes are right
pub record IsSound (d : Draft) : Type 0 where
  pub few_segments : length d.segments ≤ MAX_SEGMENTS
  pub few_boxes : length d.boxes ≤ MAX_BOXES
  pub few_trains : length d.trains ≤ MAX_TRAINS
  pub short_routes : (t : ℕ) (x : DraftTrain) → slice_get d.trains t ≡ Some x → length x.route ≤ MAX_ROUTE
  pub segments : AreDistinct d.segments
  pub boxes : AreDistinct (box_names d)
  pub trains : AreDistinct (train_names d)
  pub arm_counts : (b : ℕ) (x : DraftBox) → slice_get d.boxes b ≡ Some x → length x.arms ≡ arms_of x.kind
  pub arm_names : (b i : ℕ) (name : List ℕ) → IsArm d b i name → (s : ℕ) × (number_in d.segments name ≡ Some s)
  pub arms : (b : ℕ) (x : DraftBox) → slice_get d.boxes b ≡ Some x → AreDistinct x.arms
  pub ends : (s : ℕ) (name : List ℕ) → slice_get d.segments s ≡ Some name → length (ends_of d name) ≡ 2
  pub sides : (b : ℕ) (x : DraftBox) → slice_get d.boxes b ≡ Some x → x.kind ≢ Point → unwrap_or x.at Left ≡ Left
  pub odd_routes : (t : ℕ) (x : DraftTrain) → slice_get d.trains t ≡ Some x → length x.route % 2 ≢ 0
  pub route_segments : (t k : ℕ) (name : List ℕ) → IsRoutePlace d t (2 * k) name → (s : ℕ) × (number_in d.segments name ≡ Some s)
  pub route_boxes : (t k : ℕ) (name : List ℕ) → IsRoutePlace d t (suc (2 * k)) name → (b : ℕ) × (number_in (box_names d) name ≡ Some b)
  pub fits : (t k : ℕ) (x : DraftTrain) → slice_get d.trains t ≡ Some x → suc (2 * k) < length x.route → fits_at d x.route (suc (2 * k)) ≡ true
  pub starts : (t u : ℕ) (name : List ℕ) → t < u → IsRoutePlace d t 0 name → IsRoutePlace d u 0 name → ⊥

-- a box that is no point and has no side stands at left
left_unless_point : (kind : Kind) (o : Option Side) → cond (is_point kind) (is_none o) (is_some o) ≡ false → kind ≢ Point → unwrap_or o Left ≡ Left
left_unless_point Point o e h = absurd (h refl)
left_unless_point Buffer None e h = refl
left_unless_point Buffer (Some x) e h = absurd (false≢true (sym e))
left_unless_point Joint None e h = refl
left_unless_point Joint (Some x) e h = absurd (false≢true (sym e))
left_unless_point Crossing None e h = refl
left_unless_point Crossing (Some x) e h = absurd (false≢true (sym e))

-- of three tests that don't all pass, the third fails where the others pass
third_fails : (x y z : Bool) → (x && y && z) ≡ false → x ≡ true → y ≡ true → z ≡ false
third_fails true true z e p q = e
third_fails true false z e p q = absurd (false≢true q)
third_fails false y z e p q = absurd (false≢true p)

-- a name that isn't missing among the names has a number
not_missing : (names : List (List ℕ)) (name : List ℕ) → not (is_among names name) ≡ false → (s : ℕ) × (number_in names name ≡ Some s)
not_missing names name e = some_value (number_in names name) (not-false (is_among names name) e)

module _ (d : Draft) (a : IsAccepted d) where
  -- the name at an arm is a segment
  arm_name : (b i : ℕ) (name : List ℕ) → IsArm d b i name → (s : ℕ) × (number_in d.segments name ≡ Some s)
  arm_name b i name h =
      let at = test_fails (λ (x : DraftBox). on_name x.arms i (λ n. not (is_among d.segments n))) (slice_get d.boxes b) h.item h.box (a 8 (place.BoxArm b i)) in
      not_missing d.segments name (test_fails (λ n. not (is_among d.segments n)) (slice_get h.item.arms i) name h.arm at)

  -- the name at a place of a route isn't missing among the names of its kind
  route_name : (t j : ℕ) (name : List ℕ) → IsRoutePlace d t j name → not (is_among (cond (eqb (j % 2) 0) d.segments (box_names d)) name) ≡ false
  route_name t j name h =
      let at = test_fails (λ (x : DraftTrain). on_name x.route j (λ n. not (is_among (cond (eqb (j % 2) 0) d.segments (box_names d)) n)))
      (slice_get d.trains t) h.item h.train (a 13 (place.RouteItem t j)) in
      test_fails (λ n. not (is_among (cond (eqb (j % 2) 0) d.segments (box_names d)) n)) (slice_get h.item.route j) name h.place at

  -- the name at an even place of a route is a segment
  route_segment_name : (t k : ℕ) (name : List ℕ) → IsRoutePlace d t (2 * k) name → (s : ℕ) × (number_in d.segments name ≡ Some s)
  route_segment_name t k name h =
      let even : eqb ((2 * k) % 2) 0 ≡ true = eq-eqb ((2 * k) % 2) 0 (omega arith) in
      not_missing d.segments name (subst (λ (w : Bool). not (is_among (cond w d.segments (box_names d)) name) ≡ false) even (route_name t (2 * k) name h))

  -- the name at an odd place of a route is a box
  route_box_name : (t k : ℕ) (name : List ℕ) → IsRoutePlace d t (suc (2 * k)) name → (b : ℕ) × (number_in (box_names d) name ≡ Some b)
  route_box_name t k name h =
      let odd : eqb (suc (2 * k) % 2) 0 ≡ false = ne_eqb (suc (2 * k) % 2) 0 (λ e. omega arith) in
      not_missing (box_names d) name
      (subst (λ (w : Bool). not (is_among (cond w d.segments (box_names d)) name) ≡ false) odd (route_name t (suc (2 * k)) name h))

  -- the box at an odd place of a route connects the segments around it
  route_fits : (t k : ℕ) (x : DraftTrain) → slice_get d.trains t ≡ Some x → suc (2 * k) < length x.route → fits_at d x.route (suc (2 * k)) ≡ true
  route_fits t k x e l =
      let j = suc (2 * k) in
      let at = test_fails (λ (w : DraftTrain). eqb (j % 2) 1 && ltb j (length w.route) && not (fits_at d w.route j)) (slice_get d.trains t) x e
      (a 14 (place.RouteItem t j)) in
      not-false (fits_at d x.route j) (third_fails _ _ _ at (eq-eqb (j % 2) 1 (omega arith)) (lt-ltb j (length x.route) l))

  -- two trains have no first name in common
  first_names : (t u : ℕ) (name : List ℕ) → t < u → IsRoutePlace d t 0 name → IsRoutePlace d u 0 name → ⊥
  first_names t u name l h k =
      let at = test_fails (λ (x : DraftTrain). on_name x.route 0 (is_start (starts_below d u))) (slice_get d.trains u) k.item k.train
      (a 15 (place.RouteItem u 0)) in
      let none = test_fails (is_start (starts_below d u)) (slice_get k.item.route 0) name k.place at in
      let there = item_mapped (λ (x : DraftTrain). slice_get x.route 0) (take u d.trains) t h.item (item_before u t d.trains l ∙ h.train) in
      both_ways (is_start (starts_below d u) name) none
      (any_from (λ first. option_map_or (λ n. bytes_eq n name) first false) (starts_below d u) t (slice_get h.item.route 0) there
      (ap (λ (o : Option (List ℕ)). option_map_or (λ n. bytes_eq n name) o false) h.place ∙ bytes_eq_from_same name name refl))

-- of an accepted draft all of it holds
pub IsSound-from_accepted : (d : Draft) → IsAccepted d → IsSound d
IsSound-from_accepted d a =
    record {
      few_segments = ltb-false MAX_SEGMENTS (length d.segments) (a 5 place.Segments);
      few_boxes = ltb-false MAX_BOXES (length d.boxes) (a 5 place.Boxes);
      few_trains = ltb-false MAX_TRAINS (length d.trains) (a 5 place.Trains);
      short_routes = λ t x e. ltb-false MAX_ROUTE (length x.route)
          (test_fails (λ (w : DraftTrain). ltb MAX_ROUTE (length w.route)) (slice_get d.trains t) x e (a 5 (place.TrainRoute t)));
      segments = AreDistinct-from_twice d.segments (λ i. a 6 (place.Segment i));
      boxes = AreDistinct-from_twice (box_names d) (λ i. a 6 (place.BoxName i));
      trains = AreDistinct-from_twice (train_names d) (λ i. a 6 (place.TrainName i));
      arm_counts = λ b x e. eqb-true (length x.arms) (arms_of x.kind)
          (not-false _ (test_fails (λ (w : DraftBox). not (eqb (length w.arms) (arms_of w.kind))) (slice_get d.boxes b) x e (a 7 (place.BoxArms b))));
      arm_names = arm_name d a;
      arms = λ b x e. AreDistinct-from_twice x.arms (λ j. test_fails (λ (w : DraftBox). is_twice w.arms j) (slice_get d.boxes b) x e (a 9 (place.BoxArm b j)));
      ends = λ s name e. eqb-true (length (ends_of d name)) 2
          (not-false _ (test_fails (λ n. not (eqb (length (ends_of d n)) 2)) (slice_get d.segments s) name e (a 10 (place.Segment s))));
      sides = λ b x e. left_unless_point x.kind x.at
          (test_fails (λ (w : DraftBox). cond (is_point w.kind) (is_none w.at) (is_some w.at)) (slice_get d.boxes b) x e (a 11 (place.BoxSide b)));
      odd_routes = λ t x e. eqb-false (length x.route % 2) 0
          (test_fails (λ (w : DraftTrain). eqb (length w.route % 2) 0) (slice_get d.trains t) x e (a 12 (place.TrainRoute t)));
      route_segments = route_segment_name d a;
      route_boxes = route_box_name d a;
      fits = route_fits d a;
      starts = first_names d a;
    }
