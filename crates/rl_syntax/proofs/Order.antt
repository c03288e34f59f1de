-- The conditions stand in the order of places, so the first of the list that holds is at the first place.
use Rattle.std.proofs.Common.{◌≡◌, ℕ, ◌+◌, ◌<◌, codes, Bool, true, false, ltb, eqb, ◌||◌, ◌&&◌, List, [], ◌∷◌, ◌++◌, slice_index_or, Contains, Option, Some}
use Rattle.std.proofs.Common.{None, ⊎_elim, refl, sym, ap, ◌∙◌, subst, arith}
use Rattle.std.proofs.lemmas.Bool.{false≢true}
use Rattle.std.proofs.lemmas.Bool.Decides.{nat_tests}
use Rattle.std.proofs.lemmas.Option.{none-some}
use Rattle.std.proofs.lemmas.List.Elements.{Contains-append_right, Contains-append_cases}
use Rattle.rl_base.specs.Place.{place_key, is_no_later, IsNoLater}
use Rattle.rl_base.specs.declared.draft.Draft.{Draft}
use Rattle.rl_base.specs.declared.draft.DraftBox.{DraftBox}
use Rattle.rl_base.specs.declared.draft.DraftTrain.{DraftTrain}
use Rattle.rl_base.specs.declared.place.Place.{Place}
use Rattle.rl_base.specs.declared.place.Place.TheVariants as place
use Rattle.rl_base.proofs.PlaceOrder.{is_no_later-trans, IsNoLater-same, IsNoLater-antisymmetric}
use Rattle.rl_syntax.specs.declared.names.NameList.{NameList}
use Rattle.rl_syntax.specs.declared.names.NameList.TheVariants as lists
use Rattle.rl_syntax.specs.declared.keys.Keys.TheVariants as keys
use Rattle.rl_syntax.specs.Condition.{Condition, HoldsAt, NoneHolds, IsFirstPlace, first, of_list}
use Rattle.rl_syntax.specs.KeyConditions.{missing, misfit, items_at, of_items, no_texts, in_table, in_box, in_train, in_boxes, in_trains, key_conditions}
use Rattle.rl_syntax.specs.NameConditions.{no_name, no_names, of_box, of_train, name_conditions}
use Rattle.rl_syntax.specs.DraftReading.{name_place}
use Rattle.rl_syntax.specs.Table.{table_with}
use Rattle.rl_syntax.specs.Words.{side_of}
use Rattle.toml.specs.Data.{Data, Items, no_items, item, Members, get_member, as_str, as_array}

-- from the key on, up to the other key, the conditions stand in the order of places
abbrev pub Ascends : List ℕ → List Condition → List ℕ → Type 0
Ascends from [] to = is_no_later from to ≡ true
Ascends from (c ∷ cs) to = (is_no_later from (place_key c.1) ≡ true) × Ascends (place_key c.1) cs to

ascends_from : (before from : List ℕ) (cs : List Condition) (to : List ℕ) → is_no_later before from ≡ true → Ascends from cs to → Ascends before cs to
ascends_from before from [] to h a = is_no_later-trans before from to h a
ascends_from before from (c ∷ cs) to h a = (is_no_later-trans before from (place_key c.1) h a.0, a.1)

ascends-append : (from mid to : List ℕ) (cs ds : List Condition) → Ascends from cs mid → Ascends mid ds to → Ascends from (cs ++ ds) to
ascends-append from mid to [] ds a b = ascends_from from mid ds to a b
ascends-append from mid to (c ∷ cs) ds a b = (a.0, ascends-append (place_key c.1) mid to cs ds a.1 b)

-- a condition is one of the list where it is the head, or one of the rest
only : (c x : Condition) → Contains (c ∷ []) x → c ≡ x
only c x h =
    let here : h.0 ≡ 0 = omega arith in
    subst (λ (k : ℕ). slice_index_or (c ∷ []) k x ≡ x) here h.2

in_cons : (c : Condition) (cs : List Condition) (x : Condition) {P : Type 0} → Contains (c ∷ cs) x → (c ≡ x → P) → (Contains cs x → P) → P
in_cons c cs x h head tail = ⊎_elim (λ k. head (only c x k)) tail (Contains-append_cases (c ∷ []) cs x h)

-- no condition that holds is before the key
ascends_least : (from : List ℕ) (cs : List Condition) (to : List ℕ) (q : Place) → Ascends from cs to → HoldsAt cs q → is_no_later from (place_key q) ≡ true
ascends_least from [] to q a h = absurd (omega (arith, h.1))
ascends_least from (c ∷ cs) to q a h =
    in_cons c cs (true, q) h
    (λ e. subst (λ (x : Condition). is_no_later from (place_key x.1) ≡ true) e a.0)
    (λ k. is_no_later-trans from (place_key c.1) (place_key q) a.0 (ascends_least (place_key c.1) cs to q a.1 k))

-- what the search gives, as the plain sentence
pub first-some : (from : List ℕ) (cs : List Condition) (to : List ℕ) (p : Place) → Ascends from cs to → first cs ≡ Some p → IsFirstPlace cs p
first-some from [] to p a h = cc
first-some from ((true, r) ∷ cs) to p a h =
    let e : r ≡ p = cc in
    record {
      holds = (0, omega arith, ap (λ (x : Place). (true, x)) e);
      least = λ q k. in_cons (true, r) cs (true, q) k
          (λ s. let t : r ≡ q = ap (λ (x : Condition). x.1) s in subst (λ (x : Place). IsNoLater p x) (sym e ∙ t) (IsNoLater-same p))
          (λ s. subst (λ (x : Place). IsNoLater x q) e (ascends_least (place_key r) cs to q a.1 s));
    }
first-some from ((false, r) ∷ cs) to p a h =
    let rest = first-some (place_key r) cs to p a.1 h in
    record {
      holds = Contains-append_right ((false, r) ∷ []) cs (true, p) rest.holds;
      least = λ q k. in_cons (false, r) cs (true, q) k (λ s. absurd (false≢true (ap (λ (x : Condition). x.0) s))) (rest.least q);
    }

pub first-none : (cs : List Condition) → first cs ≡ None → NoneHolds cs
first-none [] h p k = absurd (omega (arith, k.1))
first-none ((true, r) ∷ cs) h p k = absurd (none-some r (sym h))
first-none ((false, r) ∷ cs) h p k = in_cons (false, r) cs (true, p) k (λ s. absurd (false≢true (ap (λ (x : Condition). x.0) s))) (first-none cs h p)

-- and the other way round
pub first-from_place : (from : List ℕ) (cs : List Condition) (to : List ℕ) (p : Place) → Ascends from cs to → IsFirstPlace cs p → first cs ≡ Some p
first-from_place from cs to p a h = by_search (first cs) refl
  where
    by_search : (o : Option Place) → first cs ≡ o → o ≡ Some p
    by_search None e = absurd (first-none cs e p h.holds)
    by_search (Some r) e =
        let found = first-some from cs to r a e in
        ap (λ (x : Place). Some x) (IsNoLater-antisymmetric r p (found.least p h.holds) (h.least r found.holds))

pub first-from_none : (from : List ℕ) (cs : List Condition) (to : List ℕ) → Ascends from cs to → NoneHolds cs → first cs ≡ None
first-from_none from cs to a h = by_search (first cs) refl
  where
    by_search : (o : Option Place) → first cs ≡ o → o ≡ None
    by_search None e = refl
    by_search (Some r) e = absurd (h r (first-some from cs to r a e).holds)

-- keys with the same number in front, and with a greater one
same_front : (x : ℕ) (xs ys : List ℕ) → is_no_later xs ys ≡ true → is_no_later (x ∷ xs) (x ∷ ys) ≡ true
same_front x xs ys h = at (is_no_later xs ys) h
  where
    at : (b : Bool) → b ≡ true → (ltb x x || (eqb x x && b)) ≡ true
    at b h = grind (arith, nat_tests)

later_front : (x y : ℕ) (xs ys : List ℕ) → x < y → is_no_later (x ∷ xs) (y ∷ ys) ≡ true
later_front x y xs ys l = at (is_no_later xs ys)
  where
    at : (b : Bool) → (ltb x y || (eqb x y && b)) ≡ true
    at b = grind (arith, nat_tests)

-- in the same item, and in the next one
abbrev within : (n i : ℕ) (xs ys : List ℕ) → is_no_later xs ys ≡ true → is_no_later (n ∷ i ∷ xs) (n ∷ i ∷ ys) ≡ true
within n i xs ys h = same_front n (i ∷ xs) (i ∷ ys) (same_front i xs ys h)

abbrev onward : (n i : ℕ) (xs ys : List ℕ) → is_no_later (n ∷ i ∷ xs) (n ∷ (i + 1) ∷ ys) ≡ true
onward n i xs ys = same_front n (i ∷ xs) ((i + 1) ∷ ys) (later_front i (i + 1) xs ys (omega arith))

-- the items of an array, and of a list, each with its own key
items_ascend : (f : ℕ → Data → List Condition) (at : ℕ → List ℕ) (to : List ℕ) → ((i : ℕ) (d : Data) → Ascends (at i) (f i d) (at (i + 1)))
    → ((i : ℕ) → is_no_later (at i) to ≡ true) → (i : ℕ) (ds : Items) → Ascends (at i) (of_items f i ds) to
items_ascend f at to each end i no_items = end i
items_ascend f at to each end i (item d ds) =
    ascends-append (at i) (at (i + 1)) to (f i d) (of_items f (i + 1) ds) (each i d) (items_ascend f at to each end (i + 1) ds)

list_ascends : {A : Type 0} (f : ℕ → A → List Condition) (at : ℕ → List ℕ) (to : List ℕ) → ((i : ℕ) (x : A) → Ascends (at i) (f i x) (at (i + 1)))
    → ((i : ℕ) → is_no_later (at i) to ≡ true) → (i : ℕ) (xs : List A) → Ascends (at i) (of_list f i xs) to
list_ascends f at to each end i [] = end i
list_ascends f at to each end i (x ∷ xs) =
    ascends-append (at i) (at (i + 1)) to (f i x) (of_list f (i + 1) xs) (each i x) (list_ascends f at to each end (i + 1) xs)

-- the places of a list of names
next_name : (list : NameList) (j : ℕ) → is_no_later (place_key (name_place list j)) (place_key (name_place list (j + 1))) ≡ true
next_name lists.Segments j = onward 3 j [] []
next_name (lists.Arms i) j = within 5 i (2 ∷ j ∷ []) (2 ∷ (j + 1) ∷ []) (onward 2 j [] [])
next_name (lists.Route i) j = within 6 i (1 ∷ j ∷ []) (1 ∷ (j + 1) ∷ []) (onward 1 j [] [])

texts_ascend : (list : NameList) (to : List ℕ) → ((j : ℕ) → is_no_later (place_key (name_place list j)) to ≡ true) → (ds : Items)
    → Ascends (place_key (name_place list 0)) (no_texts list ds) to
unfolding no_texts
texts_ascend list to end ds =
    items_ascend (λ j d. missing (name_place list j) (as_str d) ∷ []) (λ j. place_key (name_place list j)) to
    (λ j d. (IsNoLater-same (name_place list j), next_name list j)) end 0 ds

names_ascend : (list : NameList) (to : List ℕ) → ((j : ℕ) → is_no_later (place_key (name_place list j)) to ≡ true) → (ts : List (List ℕ))
    → Ascends (place_key (name_place list 0)) (no_names list ts) to
unfolding no_names
names_ascend list to end ts =
    list_ascends (λ j text. no_name (name_place list j) text ∷ []) (λ j. place_key (name_place list j)) to
    (λ j t. (IsNoLater-same (name_place list j), next_name list j)) end 0 ts

-- a value that may be left out
misfit_ascends : {A : Type 0} (from : List ℕ) (p : Place) (f : Data → Option A) (o : Option Data) (cs : List Condition) (to : List ℕ)
    → is_no_later from (place_key p) ≡ true → Ascends (place_key p) cs to → Ascends from (misfit p f o ∷ cs) to
misfit_ascends from p f None cs to h a = (h, a)
misfit_ascends from p f (Some d) cs to h a = (h, a)

table_ascends : (p : Place) (f : Members → List Condition) (o : Option Members) (to : List ℕ) → is_no_later (place_key p) to ≡ true
    → ((m : Members) → Ascends (place_key p) (f m) to) → Ascends (place_key p) (in_table p f o) to
table_ascends p f None to h a = (IsNoLater-same p, h)
table_ascends p f (Some m) to h a = a m

-- what is looked at in a box, from the box on up to the next one
box_ascends : (i : ℕ) (m : Members) → Ascends (place_key (place.BoxItem i)) (in_box i m) (place_key (place.BoxItem (i + 1)))
unfolding in_box
box_ascends i m =
    let at_side = misfit_ascends (5 ∷ i ∷ 3 ∷ []) (place.BoxSide i) side_of (get_member (codes "at") m) [] (5 ∷ (i + 1) ∷ []) (IsNoLater-same (place.BoxSide i))
    (onward 5 i (3 ∷ []) []) in
    let at_arms = texts_ascend (lists.Arms i) (5 ∷ i ∷ 3 ∷ []) (λ j. within 5 i (2 ∷ j ∷ []) (3 ∷ []) refl) (items_at (codes "arms") m) in
    let from_arms = ascends_from (5 ∷ i ∷ 2 ∷ []) (5 ∷ i ∷ 2 ∷ 0 ∷ []) (no_texts (lists.Arms i) (items_at (codes "arms") m)) (5 ∷ i ∷ 3 ∷ [])
    (within 5 i (2 ∷ []) (2 ∷ 0 ∷ []) refl) at_arms in (
      within 5 i [] (0 ∷ []) refl,
      (
        within 5 i (0 ∷ []) (1 ∷ []) refl,
        (
          within 5 i (1 ∷ []) (2 ∷ []) refl,
          ascends-append (5 ∷ i ∷ 2 ∷ []) (5 ∷ i ∷ 3 ∷ []) (5 ∷ (i + 1) ∷ []) (no_texts (lists.Arms i) (items_at (codes "arms") m)) _ from_arms at_side,
        ),
      ),
    )

train_ascends : (i : ℕ) (m : Members) → Ascends (place_key (place.TrainItem i)) (in_train i m) (place_key (place.TrainItem (i + 1)))
unfolding in_train
train_ascends i m =
    let at_route = texts_ascend (lists.Route i) (6 ∷ (i + 1) ∷ []) (λ j. onward 6 i (1 ∷ j ∷ []) []) (items_at (codes "route") m) in (
      within 6 i [] (0 ∷ []) refl,
      (
        within 6 i (0 ∷ []) (1 ∷ []) refl,
        ascends_from (6 ∷ i ∷ 1 ∷ []) (6 ∷ i ∷ 1 ∷ 0 ∷ []) (no_texts (lists.Route i) (items_at (codes "route") m)) (6 ∷ (i + 1) ∷ [])
            (within 6 i (1 ∷ []) (1 ∷ 0 ∷ []) refl) at_route,
      ),
    )

boxes_ascend : (ds : Items) → Ascends (place_key (place.BoxItem 0)) (in_boxes ds) (place_key place.Trains)
unfolding in_boxes
boxes_ascend ds =
    items_ascend (λ i d. in_table (place.BoxItem i) (in_box i) (table_with keys.Box d)) (λ i. place_key (place.BoxItem i)) (6 ∷ [])
    (λ i d. table_ascends (place.BoxItem i) (in_box i) (table_with keys.Box d) (5 ∷ (i + 1) ∷ []) (onward 5 i [] []) (box_ascends i))
    (λ i. refl) 0 ds

trains_ascend : (ds : Items) → Ascends (place_key (place.TrainItem 0)) (in_trains ds) (7 ∷ [])
unfolding in_trains
trains_ascend ds =
    items_ascend (λ i d. in_table (place.TrainItem i) (in_train i) (table_with keys.Train d)) (λ i. place_key (place.TrainItem i)) (7 ∷ [])
    (λ i d. table_ascends (place.TrainItem i) (in_train i) (table_with keys.Train d) (6 ∷ (i + 1) ∷ []) (onward 6 i [] []) (train_ascends i))
    (λ i. refl) 0 ds

-- what is looked at in a document: the three lists, each from its own place on
segments_ascend : (m : Members)
    → Ascends (place_key place.Format)
    (misfit place.Segments as_array (get_member (codes "segments") m) ∷ no_texts lists.Segments (items_at (codes "segments") m)) (place_key place.Boxes)
segments_ascend m =
    let ds = items_at (codes "segments") m in
    misfit_ascends (2 ∷ []) place.Segments as_array (get_member (codes "segments") m) (no_texts lists.Segments ds) (5 ∷ []) refl
    (ascends_from (3 ∷ []) (3 ∷ 0 ∷ []) (no_texts lists.Segments ds) (5 ∷ []) refl (texts_ascend lists.Segments (5 ∷ []) (λ j. refl) ds))

all_boxes_ascend : (m : Members)
    → Ascends (place_key place.Boxes) (misfit place.Boxes as_array (get_member (codes "box") m) ∷ in_boxes (items_at (codes "box") m)) (place_key place.Trains)
all_boxes_ascend m =
    let ds = items_at (codes "box") m in
    misfit_ascends (5 ∷ []) place.Boxes as_array (get_member (codes "box") m) (in_boxes ds) (6 ∷ []) refl
    (ascends_from (5 ∷ []) (5 ∷ 0 ∷ []) (in_boxes ds) (6 ∷ []) refl (boxes_ascend ds))

all_trains_ascend : (m : Members)
    → Ascends (place_key place.Trains) (misfit place.Trains as_array (get_member (codes "train") m) ∷ in_trains (items_at (codes "train") m)) (7 ∷ [])
all_trains_ascend m =
    let ds = items_at (codes "train") m in
    misfit_ascends (6 ∷ []) place.Trains as_array (get_member (codes "train") m) (in_trains ds) (7 ∷ []) refl
    (ascends_from (6 ∷ []) (6 ∷ 0 ∷ []) (in_trains ds) (7 ∷ []) refl (trains_ascend ds))

pub keys_ascend : (m : Members) → Ascends (place_key place.Top) (key_conditions m) (7 ∷ [])
unfolding key_conditions
keys_ascend m =
    let segments : List Condition = misfit place.Segments as_array (get_member (codes "segments") m) ∷ no_texts lists.Segments
    (items_at (codes "segments") m) in
    let boxes : List Condition = misfit place.Boxes as_array (get_member (codes "box") m) ∷ in_boxes (items_at (codes "box") m) in
    let trains : List Condition = misfit place.Trains as_array (get_member (codes "train") m) ∷ in_trains (items_at (codes "train") m) in (
      refl,
      (
        refl,
        ascends-append (2 ∷ []) (6 ∷ []) (7 ∷ []) (segments ++ boxes) trains
            (ascends-append (2 ∷ []) (5 ∷ []) (6 ∷ []) segments boxes (segments_ascend m) (all_boxes_ascend m)) (all_trains_ascend m),
      ),
    )

-- and in a draft
names_of_box_ascend : (i : ℕ) (b : DraftBox) → Ascends (place_key (place.BoxItem i)) (of_box i b) (place_key (place.BoxItem (i + 1)))
unfolding of_box
names_of_box_ascend i b = (
  within 5 i [] (0 ∷ []) refl,
  ascends_from (5 ∷ i ∷ 0 ∷ []) (5 ∷ i ∷ 2 ∷ 0 ∷ []) (no_names (lists.Arms i) b.arms) (5 ∷ (i + 1) ∷ []) (within 5 i (0 ∷ []) (2 ∷ 0 ∷ []) refl)
      (names_ascend (lists.Arms i) (5 ∷ (i + 1) ∷ []) (λ j. onward 5 i (2 ∷ j ∷ []) []) b.arms),
)

names_of_train_ascend : (i : ℕ) (t : DraftTrain) → Ascends (place_key (place.TrainItem i)) (of_train i t) (place_key (place.TrainItem (i + 1)))
unfolding of_train
names_of_train_ascend i t = (
  within 6 i [] (0 ∷ []) refl,
  ascends_from (6 ∷ i ∷ 0 ∷ []) (6 ∷ i ∷ 1 ∷ 0 ∷ []) (no_names (lists.Route i) t.route) (6 ∷ (i + 1) ∷ []) (within 6 i (0 ∷ []) (1 ∷ 0 ∷ []) refl)
      (names_ascend (lists.Route i) (6 ∷ (i + 1) ∷ []) (λ j. onward 6 i (1 ∷ j ∷ []) []) t.route),
)

pub draft_names_ascend : (d : Draft) → Ascends (place_key (place.Segment 0)) (name_conditions d) (7 ∷ [])
unfolding name_conditions
draft_names_ascend d =
    ascends-append (3 ∷ 0 ∷ []) (6 ∷ 0 ∷ []) (7 ∷ []) _ _
    (ascends-append (3 ∷ 0 ∷ []) (5 ∷ 0 ∷ []) (6 ∷ 0 ∷ []) _ _ (names_ascend lists.Segments (5 ∷ 0 ∷ []) (λ j. refl) d.segments)
    (list_ascends of_box (λ i. place_key (place.BoxItem i)) (6 ∷ 0 ∷ []) names_of_box_ascend (λ i. refl) 0 d.boxes))
    (list_ascends of_train (λ i. place_key (place.TrainItem i)) (7 ∷ []) names_of_train_ascend (λ i. refl) 0 d.trains)
