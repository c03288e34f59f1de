-- A draft in which no condition on names holds has names.
use Rattle.std.proofs.Common.{◌≡◌, ℕ, ◌+◌, Bool, true, false, not, cond, List, [], ◌∷◌, ◌++◌, Option, Some, None, refl, ap, ◌∙◌}
use Rattle.std.proofs.lemmas.Bool.{and_from, and_parts}
use Rattle.std.specs.List.{list_all}
use Rattle.rl_base.specs.Draft.{HasNames}
use Rattle.rl_base.specs.Name.{is_name}
use Rattle.rl_base.specs.declared.draft.Draft.{Draft}
use Rattle.rl_base.specs.declared.draft.DraftBox.{DraftBox}
use Rattle.rl_base.specs.declared.draft.DraftTrain.{DraftTrain}
use Rattle.rl_base.specs.declared.place.Place.{Place}
use Rattle.rl_base.specs.declared.place.Place.TheVariants.{BoxName, TrainName}
use Rattle.rl_syntax.proofs.Conditions.{or_else, first-append}
use Rattle.rl_syntax.specs.Condition.{Condition, first, of_list}
use Rattle.rl_syntax.specs.NameConditions.{no_name, no_names, of_box, of_train, name_conditions}
use Rattle.rl_syntax.specs.DraftReading.{name_place}
use Rattle.rl_syntax.specs.declared.names.NameList.{NameList}
use Rattle.rl_syntax.specs.declared.names.NameList.TheVariants.{Segments, Arms, Route}

-- a test that passes leaves the others to decide
passes : (b : Bool) (p : Place) (o : Option Place) → cond (not b) (Some p) o ≡ None → (b ≡ true) × (o ≡ None)
passes true p o h = (refl, h)
passes false p o h = cc

neither : (cs ds : List Condition) → first (cs ++ ds) ≡ None → (first cs ≡ None) × (first ds ≡ None)
neither [] ds h = (refl, h)
neither ((true, p) ∷ cs) ds h = cc
neither ((false, p) ∷ cs) ds h = neither cs ds h

texts_pass : (place : ℕ → Place) (j : ℕ) (ts : List (List ℕ)) → first (of_list (λ k t. no_name (place k) t ∷ []) j ts) ≡ None → list_all is_name ts ≡ true
texts_pass place j [] h = refl
texts_pass place j (t ∷ ts) h =
    let (here, more) = passes (is_name t) (place j) _ h in
    and_from (is_name t) (list_all is_name ts) here (texts_pass place (j + 1) ts more)

list_passes : (list : NameList) (ts : List (List ℕ)) → first (no_names list ts) ≡ None → list_all is_name ts ≡ true
unfolding no_names
list_passes list ts h = texts_pass (name_place list) 0 ts h

boxes_pass : (i : ℕ) (bs : List DraftBox) → first (of_list of_box i bs) ≡ None
    → (list_all (λ b. is_name b.name) bs ≡ true) × (list_all (λ b. list_all is_name b.arms) bs ≡ true)
unfolding of_box
boxes_pass i [] h = (refl, refl)
boxes_pass i (b ∷ bs) h =
    let (here, rest) = passes (is_name b.name) (BoxName i) _ h in
    let (arms, more) = neither (no_names (Arms i) b.arms) (of_list of_box (i + 1) bs) rest in
    let others = boxes_pass (i + 1) bs more in
    (and_from (is_name b.name) _ here others.0, and_from (list_all is_name b.arms) _ (list_passes (Arms i) b.arms arms) others.1)

trains_pass : (i : ℕ) (ts : List DraftTrain) → first (of_list of_train i ts) ≡ None
    → (list_all (λ t. is_name t.name) ts ≡ true) × (list_all (λ t. list_all is_name t.route) ts ≡ true)
unfolding of_train
trains_pass i [] h = (refl, refl)
trains_pass i (t ∷ ts) h =
    let (here, rest) = passes (is_name t.name) (TrainName i) _ h in
    let (route, more) = neither (no_names (Route i) t.route) (of_list of_train (i + 1) ts) rest in
    let others = trains_pass (i + 1) ts more in
    (and_from (is_name t.name) _ here others.0, and_from (list_all is_name t.route) _ (list_passes (Route i) t.route route) others.1)

pub HasNames-from_first : (d : Draft) → first (name_conditions d) ≡ None → HasNames d
unfolding name_conditions
HasNames-from_first d h =
    let (front, trains) = neither (no_names Segments d.segments ++ of_list of_box 0 d.boxes) (of_list of_train 0 d.trains) h in
    let (segments, boxes) = neither (no_names Segments d.segments) (of_list of_box 0 d.boxes) front in
    let of_boxes = boxes_pass 0 d.boxes boxes in
    let of_trains = trains_pass 0 d.trains trains in
    record {
      segments = list_passes Segments d.segments segments;
      boxes = of_boxes.0;
      arms = of_boxes.1;
      trains = of_trains.0;
      routes = of_trains.1;
    }

-- and where all are names, no condition holds
nothing_holds : (b : Bool) (p : Place) (o : Option Place) → b ≡ true → o ≡ None → cond (not b) (Some p) o ≡ None
nothing_holds true p o h k = k
nothing_holds false p o h k = cc

in_neither : (cs ds : List Condition) → first cs ≡ None → first ds ≡ None → first (cs ++ ds) ≡ None
in_neither cs ds h k = first-append cs ds ∙ ap (λ o. or_else o (first ds)) h ∙ k

texts_none : (place : ℕ → Place) (j : ℕ) (ts : List (List ℕ)) → list_all is_name ts ≡ true → first (of_list (λ k t. no_name (place k) t ∷ []) j ts) ≡ None
texts_none place j [] h = refl
texts_none place j (t ∷ ts) h =
    let (here, more) = and_parts (is_name t) (list_all is_name ts) h in
    nothing_holds (is_name t) (place j) _ here (texts_none place (j + 1) ts more)

list_none : (list : NameList) (ts : List (List ℕ)) → list_all is_name ts ≡ true → first (no_names list ts) ≡ None
unfolding no_names
list_none list ts h = texts_none (name_place list) 0 ts h

boxes_none : (i : ℕ) (bs : List DraftBox) → list_all (λ b. is_name b.name) bs ≡ true → list_all (λ b. list_all is_name b.arms) bs ≡ true
    → first (of_list of_box i bs) ≡ None
unfolding of_box
boxes_none i [] h k = refl
boxes_none i (b ∷ bs) h k =
    let (name, names) = and_parts (is_name b.name) (list_all (λ c. is_name c.name) bs) h in
    let (here, more) = and_parts (list_all is_name b.arms) (list_all (λ c. list_all is_name c.arms) bs) k in
    nothing_holds (is_name b.name) (BoxName i) _ name
    (in_neither (no_names (Arms i) b.arms) (of_list of_box (i + 1) bs) (list_none (Arms i) b.arms here) (boxes_none (i + 1) bs names more))

trains_none : (i : ℕ) (ts : List DraftTrain) → list_all (λ t. is_name t.name) ts ≡ true → list_all (λ t. list_all is_name t.route) ts ≡ true
    → first (of_list of_train i ts) ≡ None
unfolding of_train
trains_none i [] h k = refl
trains_none i (t ∷ ts) h k =
    let (name, names) = and_parts (is_name t.name) (list_all (λ u. is_name u.name) ts) h in
    let (here, more) = and_parts (list_all is_name t.route) (list_all (λ u. list_all is_name u.route) ts) k in
    nothing_holds (is_name t.name) (TrainName i) _ name
    (in_neither (no_names (Route i) t.route) (of_list of_train (i + 1) ts) (list_none (Route i) t.route here) (trains_none (i + 1) ts names more))

pub first-from_HasNames : (d : Draft) → HasNames d → first (name_conditions d) ≡ None
unfolding name_conditions
first-from_HasNames d h =
    in_neither (no_names Segments d.segments ++ of_list of_box 0 d.boxes) (of_list of_train 0 d.trains)
    (in_neither (no_names Segments d.segments) (of_list of_box 0 d.boxes) (list_none Segments d.segments h.segments) (boxes_none 0 d.boxes h.boxes h.arms))
    (trains_none 0 d.trains h.trains h.routes)
