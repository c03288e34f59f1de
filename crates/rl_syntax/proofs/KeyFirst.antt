-- A reading stops at the place of the first condition that holds.
use Rattle.std.proofs.Common.{◌≡◌, ℕ, ◌+◌, codes, Bool, true, false, not, cond, List, [], ◌∷◌, ◌++◌, length, Option, Some, None, Ok, Err, option_and_then, refl}
use Rattle.std.proofs.Common.{ap, sym, ◌∙◌, append_assoc, length-append}
use Rattle.rl_base.specs.declared.place.Place.{Place}
use Rattle.rl_base.specs.declared.place.Place.TheVariants.{Top, Format, Segments, Boxes, BoxItem, BoxName, BoxKind, BoxArms, BoxSide, Trains, TrainItem}
use Rattle.rl_base.specs.declared.place.Place.TheVariants.{TrainName, TrainRoute}
use Rattle.rl_syntax.specs.declared.names.NameList.{NameList}
use Rattle.rl_syntax.specs.declared.names.NameList.TheVariants as lists
use Rattle.rl_syntax.specs.declared.keys.Keys.TheVariants as keys
use Rattle.rl_syntax.specs.Condition.{Condition, first}
use Rattle.rl_syntax.specs.KeyConditions.{missing, misfit, items_or_none, items_at, of_items, no_texts, in_table, in_box, in_train, in_boxes, in_trains}
use Rattle.rl_syntax.specs.KeyConditions.{key_conditions}
use Rattle.rl_syntax.specs.DraftReading.{list_place, name_place, name_in, names_of, needed_names, box_of, box_in, boxes_of, train_of, train_in, trains_of}
use Rattle.rl_syntax.specs.DraftReading.{lists_of, draft_of}
use Rattle.rl_syntax.specs.Reading.{Read, ◌>>=◌, needed, optional, each}
use Rattle.rl_syntax.specs.Table.{has_other_key, has_format_one, table_with, text_at, array_at, optional_array}
use Rattle.rl_syntax.specs.Words.{kind_named, side_of}
use Rattle.rl_syntax.proofs.Conditions.{or_else, first-append}
use Rattle.toml.specs.Data.{Data, Items, no_items, item, Members, get_member, as_str, as_array}

-- where a reading stops
abbrev pub stop : {A : Type 0} → Read A → Option Place
stop (Ok x) = None
stop (Err p) = Some p

-- one reading after another
then_first : {A B : Type 0} (r : Read A) (f : A → Read B) (cs ds : List Condition) → first cs ≡ stop r → ((x : A) → first ds ≡ stop (f x))
    → first (cs ++ ds) ≡ stop (r >>= f)
then_first (Ok x) f cs ds here more = first-append cs ds ∙ ap (λ o. or_else o (first ds)) here ∙ more x
then_first (Err p) f cs ds here more = first-append cs ds ∙ ap (λ o. or_else o (first ds)) here

last_first : {A B : Type 0} (r : Read A) (f : A → Read B) (cs : List Condition) → first cs ≡ stop r → ((x : A) → stop (f x) ≡ None) → first cs ≡ stop (r >>= f)
last_first (Ok x) f cs here more = here ∙ sym (more x)
last_first (Err p) f cs here more = here

needed_first : {A : Type 0} (p : Place) (o : Option A) → first (missing p o ∷ []) ≡ stop (needed p o)
needed_first p None = refl
needed_first p (Some x) = refl

optional_first : {A : Type 0} (p : Place) (f : Data → Option A) (o : Option Data) → first (misfit p f o ∷ []) ≡ stop (optional p f o)
optional_first p f None = refl
optional_first p f (Some d) = then_first (needed p (f d)) (λ x. Ok (Some x)) (missing p (f d) ∷ []) [] (needed_first p (f d)) (λ x. refl)

-- the items of an array, each read where its conditions are looked at
each_first : {A : Type 0} (f : ℕ → Data → Read A) (g : ℕ → Data → List Condition) → ((i : ℕ) (d : Data) → first (g i d) ≡ stop (f i d))
    → (so_far : List A) (ds : Items) → first (of_items g (length so_far) ds) ≡ stop (each f so_far ds)
each_first f g same so_far no_items = refl
each_first f g same so_far (item d ds) =
    then_first (f (length so_far) d) (λ x. each f (so_far ++ x ∷ []) ds) (g (length so_far) d) (of_items g (length so_far + 1) ds)
    (same (length so_far) d)
    (λ x. ap (λ n. first (of_items g n ds)) (sym (length-append so_far (x ∷ []))) ∙ each_first f g same (so_far ++ x ∷ []) ds)

names_first : (list : NameList) (ds : Items) → first (no_texts list ds) ≡ stop (names_of list ds)
unfolding no_texts names_of
names_first list ds = each_first (name_in list) (λ j d. missing (name_place list j) (as_str d) ∷ []) (λ j d. needed_first (name_place list j) (as_str d)) [] ds

-- a list that must be there, and one that may be left out
needed_names_first : (list : NameList) (o : Option Items) → first (missing (list_place list) o ∷ no_texts list (items_or_none o)) ≡ stop (needed_names list o)
needed_names_first list None = refl
needed_names_first list (Some ds) = names_first list ds

in_array_first : {A : Type 0} (p : Place) (f : Items → Read A) (g : Items → List Condition) → ((ds : Items) → first (g ds) ≡ stop (f ds)) → (o : Option Items)
    → first (missing p o ∷ g (items_or_none o)) ≡ stop (needed p o >>= f)
in_array_first p f g same None = refl
in_array_first p f g same (Some ds) = same ds

optional_array_first : {A : Type 0} (p : Place) (f : Items → Read A) (g : Items → List Condition) → ((ds : Items) → first (g ds) ≡ stop (f ds))
    → (o : Option Data) → first (misfit p as_array o ∷ g (items_or_none (option_and_then as_array o))) ≡ stop (optional_array p o >>= f)
optional_array_first p f g same None = same no_items
optional_array_first p f g same (Some d) = in_array_first p f g same (as_array d)

box_first : (i : ℕ) (m : Members) → first (in_box i m) ≡ stop (box_of i m)
unfolding in_box box_of
box_first i m =
    let name = text_at (codes "name") m in
    let kind = option_and_then kind_named (text_at (codes "kind") m) in
    let arms = array_at (codes "arms") m in
    let side = get_member (codes "at") m in
    let at_side = misfit (BoxSide i) side_of side ∷ [] in
    let at_arms = missing (BoxArms i) arms ∷ no_texts (lists.Arms i) (items_or_none arms) in
    then_first (needed (BoxName i) name) _ (missing (BoxName i) name ∷ []) (missing (BoxKind i) kind ∷ (at_arms ++ at_side)) (needed_first (BoxName i) name)
    (λ n.
    then_first (needed (BoxKind i) kind) _ (missing (BoxKind i) kind ∷ []) (at_arms ++ at_side) (needed_first (BoxKind i) kind) (λ k.
    then_first (needed_names (lists.Arms i) arms) _ at_arms at_side (needed_names_first (lists.Arms i) arms) (λ a.
    then_first (optional (BoxSide i) side_of side) _ at_side [] (optional_first (BoxSide i) side_of side) (λ s. refl))))

train_first : (i : ℕ) (m : Members) → first (in_train i m) ≡ stop (train_of i m)
unfolding in_train train_of
train_first i m =
    let name = text_at (codes "name") m in
    let route = array_at (codes "route") m in
    let at_route = missing (TrainRoute i) route ∷ no_texts (lists.Route i) (items_or_none route) in
    then_first (needed (TrainName i) name) _ (missing (TrainName i) name ∷ []) at_route (needed_first (TrainName i) name) (λ n.
    last_first (needed_names (lists.Route i) route) _ at_route (needed_names_first (lists.Route i) route) (λ r. refl))

table_first : {A : Type 0} (p : Place) (f : Members → Read A) (g : Members → List Condition) → ((m : Members) → first (g m) ≡ stop (f m)) → (o : Option Members)
    → first (in_table p g o) ≡ stop (needed p o >>= f)
table_first p f g same None = refl
table_first p f g same (Some m) = same m

boxes_first : (ds : Items) → first (in_boxes ds) ≡ stop (boxes_of ds)
unfolding in_boxes boxes_of
boxes_first ds = each_first box_in (λ i d. in_table (BoxItem i) (in_box i) (table_with keys.Box d))
    (λ i d. table_first (BoxItem i) (box_of i) (in_box i) (box_first i) (table_with keys.Box d)) [] ds

trains_first : (ds : Items) → first (in_trains ds) ≡ stop (trains_of ds)
unfolding in_trains trains_of
trains_first ds = each_first train_in (λ i d. in_table (TrainItem i) (in_train i) (table_with keys.Train d))
    (λ i d. table_first (TrainItem i) (train_of i) (in_train i) (train_first i) (table_with keys.Train d)) [] ds

-- the three lists of a document
abbrev at_segments : Members → List Condition
at_segments m = misfit Segments as_array (get_member (codes "segments") m) ∷ no_texts lists.Segments (items_at (codes "segments") m)

abbrev at_boxes : Members → List Condition
at_boxes m = misfit Boxes as_array (get_member (codes "box") m) ∷ in_boxes (items_at (codes "box") m)

abbrev at_trains : Members → List Condition
at_trains m = misfit Trains as_array (get_member (codes "train") m) ∷ in_trains (items_at (codes "train") m)

lists_first : (m : Members) → first (at_segments m ++ (at_boxes m ++ at_trains m)) ≡ stop (lists_of m)
unfolding lists_of
lists_first m =
    let segments = get_member (codes "segments") m in
    let boxes = get_member (codes "box") m in
    let trains = get_member (codes "train") m in
    then_first (optional_array Segments segments >>= names_of lists.Segments) _ (at_segments m) (at_boxes m ++ at_trains m)
    (optional_array_first Segments (names_of lists.Segments) (no_texts lists.Segments) (names_first lists.Segments) segments) (λ s.
    then_first (optional_array Boxes boxes >>= boxes_of) _ (at_boxes m) (at_trains m)
    (optional_array_first Boxes boxes_of in_boxes boxes_first boxes) (λ b.
    last_first (optional_array Trains trains >>= trains_of) _ (at_trains m)
    (optional_array_first Trains trains_of in_trains trains_first trains) (λ t. refl)))

-- a test before a reading
guarded : {A : Type 0} (b : Bool) (p : Place) (r : Read A) (o : Option Place) → o ≡ stop r → cond b (Some p) o ≡ stop (cond b (Err p) r)
guarded true p r o e = refl
guarded false p r o e = e

guarded_not : {A : Type 0} (b : Bool) (p : Place) (r : Read A) (o : Option Place) → o ≡ stop r → cond (not b) (Some p) o ≡ stop (cond b r (Err p))
guarded_not true p r o e = e
guarded_not false p r o e = refl

pub key_first : (m : Members) → first (key_conditions m) ≡ stop (draft_of m)
unfolding key_conditions draft_of
key_first m =
    guarded (has_other_key keys.Network m) Top _ _
    (guarded_not (has_format_one m) Format (lists_of m) _
    (ap first (append_assoc (at_segments m) (at_boxes m) (at_trains m)) ∙ lists_first m))
