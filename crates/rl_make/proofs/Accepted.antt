-- The ring breaks no rule.
use Rattle.std.proofs.Common.{◌≡◌, ℕ, ◌%◌, ◌<◌, ◌≤◌, ◌^◌, Bool, true, false, not, cond, eqb, ltb, ◌&&◌, List, [], ◌∷◌, length, map, slice_get, Some, is_some}
use Rattle.std.proofs.Common.{is_none, bytes_eq, refl, arith}
use Rattle.std.proofs.lemmas.Bool.Decides.{nat_tests}
use Rattle.std.specs.List.{list_any}
use Rattle.std.specs.Option.{option_map_or}
use Rattle.rl_base.specs.Kind.{arms_of}
use Rattle.rl_base.specs.declared.limits.TheConstants.{MAX_SEGMENTS, MAX_BOXES, MAX_TRAINS, MAX_ROUTE}
use Rattle.rl_base.specs.declared.place.Place.TheVariants as place
use Rattle.rl_base.specs.declared.draft.DraftBox.{DraftBox}
use Rattle.rl_base.specs.declared.draft.DraftTrain.{DraftTrain}
use Rattle.rl_drafts.specs.Drafts.{box_names, ends_of}
use Rattle.rl_drafts.specs.Refusals.{on_box, on_train, on_name, is_among, is_twice, is_point, starts_below, is_start, IsAccepted}
use Rattle.rl_make.specs.Ring.{upper, lower, middle, line, entry, exit, joint, station_before, segments_of, point_box, joint_box, boxes_of, platform, train_of, each}
use Rattle.rl_make.specs.Ring.{ring}
use Rattle.rl_make.proofs.Distinct.{segments_once, boxes_once, trains_once}
use Rattle.rl_make.proofs.Each.{any-each-none, none_at, map-each, length-each, fresh_all, each_fresh, twice-fresh}
use Rattle.rl_make.proofs.EndsOf.{before_within, upper_ends, lower_ends, middle_ends, line_ends}
use Rattle.rl_make.proofs.Found.{upper_is, lower_is, middle_is, line_is}
use Rattle.rl_make.proofs.Names.{differs}
use Rattle.rl_make.proofs.Routes.{length-route, route_named, misfits, route_fits}

-- none of three or four items passes
none_of_three : {A : Type 0} (p : A → Bool) (x y z : A) → p x ≡ false → p y ≡ false → p z ≡ false → list_any p (x ∷ y ∷ z ∷ []) ≡ false
none_of_three p x y z a b c = rw (a, b, c)

-- what no box, and what no train, of the ring does
no_box : (p : DraftBox → Bool) (n : ℕ) → ((h : ℕ) → h < n → list_any p (boxes_of n h) ≡ false) → (i : ℕ) → on_box (ring n) i p ≡ false
no_box p n none i = none_at p (each (boxes_of n) n) (any-each-none p (boxes_of n) n none) i

no_train : (p : DraftTrain → Bool) (n : ℕ) → ((h : ℕ) → h < n → p (train_of n h) ≡ false) → (i : ℕ) → on_train (ring n) i p ≡ false
no_train p n none i = none_at p (each (λ h. train_of n h ∷ []) n) (any-each-none p (λ h. train_of n h ∷ []) n (λ h l. rw (none h l))) i

-- rule 7: the arms are as many as the kind has
arms_counted : (n i : ℕ) → on_box (ring n) i (λ x. not (eqb (length x.arms) (arms_of x.kind))) ≡ false
arms_counted n i = no_box (λ x. not (eqb (length x.arms) (arms_of x.kind))) n (λ h l. refl) i

-- rule 8: they name segments
two_there : (names : List (List ℕ)) (x y : List ℕ) (j : ℕ) → is_among names x ≡ true → is_among names y ≡ true
    → on_name (x ∷ y ∷ []) j (λ name. not (is_among names name)) ≡ false
two_there names x y j a b = none_at (λ name. not (is_among names name)) (x ∷ y ∷ []) (rw (a, b)) j

three_there : (names : List (List ℕ)) (x y z : List ℕ) (j : ℕ) → is_among names x ≡ true → is_among names y ≡ true → is_among names z ≡ true
    → on_name (x ∷ y ∷ z ∷ []) j (λ name. not (is_among names name)) ≡ false
three_there names x y z j a b c = none_at (λ name. not (is_among names name)) (x ∷ y ∷ z ∷ []) (rw (a, b, c)) j

arms_named : (n i j : ℕ) → on_box (ring n) i (λ x. on_name x.arms j (λ name. not (is_among (each segments_of n) name))) ≡ false
arms_named n i j =
    no_box (λ x. on_name x.arms j (λ name. not (is_among (each segments_of n) name))) n
    (λ h l.
    let there = before_within n h l in
    none_of_three (λ (x : DraftBox). on_name x.arms j (λ name. not (is_among (each segments_of n) name)))
    (point_box (entry h) (line (station_before n h)) (upper h) (lower h))
    (point_box (exit h) (middle h) (upper h) (lower h)) (joint_box (joint h) (middle h) (line h))
    (three_there (each segments_of n) (line (station_before n h)) (upper h) (lower h) j
    (line_is n (station_before n h) there) (upper_is n h l) (lower_is n h l))
    (three_there (each segments_of n) (middle h) (upper h) (lower h) j (middle_is n h l) (upper_is n h l) (lower_is n h l))
    (two_there (each segments_of n) (middle h) (line h) j (middle_is n h l) (line_is n h l))) i

-- rule 9: each another one
arms_apart : (n i j : ℕ) → on_box (ring n) i (λ x. is_twice x.arms j) ≡ false
arms_apart n i j = no_box (λ x. is_twice x.arms j) n (λ h l.
    rw (
      twice-fresh (line (station_before n h) ∷ upper h ∷ lower h ∷ []) (refl, (refl, (refl, tt))) j,
      twice-fresh (middle h ∷ upper h ∷ lower h ∷ []) (refl, (refl, (refl, tt))) j,
      twice-fresh (middle h ∷ line h ∷ []) (refl, (refl, tt)) j,
    )) i

-- rule 10: each segment has two ends
ends_two : (n i : ℕ) → n ≤ 32 → on_name (each segments_of n) i (λ name. not (eqb (length (ends_of (ring n) name)) 2)) ≡ false
ends_two n i few = none_at (λ name. not (eqb (length (ends_of (ring n) name)) 2)) (each segments_of n)
    (any-each-none (λ name. not (eqb (length (ends_of (ring n) name)) 2)) segments_of n
    (λ h l. rw (upper_ends n h few l, lower_ends n h few l, middle_ends n h few l, line_ends n h few l))) i

-- rule 11: points have a side, and joints have none
sides_right : (n i : ℕ) → on_box (ring n) i (λ x. cond (is_point x.kind) (is_none x.at) (is_some x.at)) ≡ false
sides_right n i = no_box (λ x. cond (is_point x.kind) (is_none x.at) (is_some x.at)) n (λ h l. refl) i

-- rules 5 and 12: the length of the routes
routes_short : (n i : ℕ) → on_train (ring n) i (λ t. ltb MAX_ROUTE (length t.route)) ≡ false
routes_short n i = no_train (λ t. ltb MAX_ROUTE (length t.route)) n (λ h l. rw (length-route n h)) i

routes_odd : (n i : ℕ) → on_train (ring n) i (λ t. eqb (length t.route % 2) 0) ≡ false
routes_odd n i = no_train (λ t. eqb (length t.route % 2) 0) n (λ h l. rw (length-route n h)) i

-- rules 13 and 14: what they name, and that the boxes connect it
routes_named : (n i j : ℕ)
    → on_train (ring n) i (λ t. on_name t.route j (λ name. not (is_among (cond (eqb (j % 2) 0) (each segments_of n) (box_names (ring n))) name))) ≡ false
routes_named n i j = no_train (λ t. on_name t.route j (λ name. not (is_among (cond (eqb (j % 2) 0) (each segments_of n) (box_names (ring n))) name))) n
    (λ h l. route_named n h j l) i

routes_fit : (n i j : ℕ) → n ≤ 32 → on_train (ring n) i (λ t. misfits (ring n) t.route j) ≡ false
routes_fit n i j few = no_train (λ t. misfits (ring n) t.route j) n (λ h l. route_fits n h j l (omega arith)) i

-- rule 15: where they begin
abbrev shares : List DraftTrain → DraftTrain → Bool
shares earlier t = on_name t.route 0 (is_start (map (λ (u : DraftTrain). slice_get u.route 0) earlier))

platforms_differ : (i j : ℕ) → i < j → j < 2 ^ 64 → bytes_eq (platform i i) (platform j j) ≡ false
platforms_differ i j l fits = at (eqb (i % 2) 0) (eqb (j % 2) 0)
  where
    at : (b c : Bool) → bytes_eq (cond b (upper i) (lower i)) (cond c (upper j) (lower j)) ≡ false
    at true true = rw (differs i j l fits)
    at true false = refl
    at false true = refl
    at false false = rw (differs i j l fits)

start_new : (n m : ℕ) → m < 2 ^ 64 → shares (each (λ h. train_of n h ∷ []) m) (train_of n m) ≡ false
start_new n m fits =
    rw (map-each (λ (u : DraftTrain). slice_get u.route 0) (λ h. train_of n h ∷ []) m)
    (any-each-none (λ first. option_map_or (λ x. bytes_eq x (platform m m)) first false) (λ h. Some (platform h h) ∷ []) m
    (λ i l. rw (platforms_differ i m l fits)))

starts_apart : (n i : ℕ) → n ≤ 32 → on_train (ring n) i (λ t. on_name t.route 0 (is_start (starts_below (ring n) i))) ≡ false
starts_apart n i few = fresh_all shares (ring n).trains (each_fresh shares (λ h. train_of n h ∷ []) n (λ m l. (start_new n m (omega arith), tt))) i

-- a test that is joined to one that fails
and_last : (a b : Bool) → b ≡ false → a && b ≡ false
and_last true b e = e
and_last false b e = refl

neither_way : (a b c : Bool) → b ≡ false → c ≡ false → cond a b c ≡ false
neither_way true b c e f = e
neither_way false b c e f = f

pub accepted : (n : ℕ) → n ≤ 32 → IsAccepted (ring n)
accepted n few r place.Segments = and_last (eqb r 5) (ltb MAX_SEGMENTS (length (each segments_of n)))
    (rw (length-each segments_of 4 (λ i. refl) n) (grind (arith, nat_tests)))
accepted n few r place.Boxes = and_last (eqb r 5) (ltb MAX_BOXES (length (each (boxes_of n) n)))
    (rw (length-each (boxes_of n) 3 (λ i. refl) n) (grind (arith, nat_tests)))
accepted n few r place.Trains = and_last (eqb r 5) (ltb MAX_TRAINS (length (ring n).trains))
    (rw (length-each (λ i. train_of n i ∷ []) 1 (λ i. refl) n) (grind (arith, nat_tests)))
accepted n few r (place.Segment i) = neither_way (eqb r 6) _ _ (segments_once n few i) (and_last (eqb r 10) _ (ends_two n i few))
accepted n few r (place.BoxName i) = and_last (eqb r 6) _ (boxes_once n few i)
accepted n few r (place.BoxArms i) = and_last (eqb r 7) _ (arms_counted n i)
accepted n few r (place.BoxArm i j) = neither_way (eqb r 8) _ _ (arms_named n i j) (and_last (eqb r 9) _ (arms_apart n i j))
accepted n few r (place.BoxSide i) = and_last (eqb r 11) _ (sides_right n i)
accepted n few r (place.TrainName i) = and_last (eqb r 6) _ (trains_once n few i)
accepted n few r (place.TrainRoute i) = neither_way (eqb r 5) _ _ (routes_short n i) (and_last (eqb r 12) _ (routes_odd n i))
accepted n few r (place.RouteItem i j) =
    neither_way (eqb r 13) _ _ (routes_named n i j)
    (neither_way (eqb r 14) _ _ (routes_fit n i j few) (and_last (eqb r 15) _ (and_last (eqb j 0) _ (starts_apart n i few))))
accepted n few r _ = refl
