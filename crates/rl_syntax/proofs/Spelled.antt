-- What is read from a table stands in it.
use Rattle.std.proofs.Common.{◌≡◌, ℕ, ◌+◌, codes, Bool, true, false, cond, List, [], ◌∷◌, ◌++◌, length, Option, Some, None, Ok, Err, option_and_then}
use Rattle.std.proofs.Common.{option_map, refl, ap, sym, ◌∙◌, append_assoc, append-nil, length-append, subst, bytes_eq}
use Rattle.std.proofs.lemmas.Slice.Eq.{bytes_eq-Decides}
use Rattle.rl_base.specs.declared.draft.Draft.{Draft}
use Rattle.rl_base.specs.declared.draft.DraftBox.{DraftBox}
use Rattle.rl_base.specs.declared.draft.DraftTrain.{DraftTrain}
use Rattle.rl_base.specs.Kind.{kind_word, side_word}
use Rattle.rl_base.specs.declared.kind.Kind.{Kind}
use Rattle.rl_base.specs.declared.kind.Kind.TheVariants.{Buffer, Joint, Point, Crossing}
use Rattle.rl_base.specs.declared.kind.Side.{Side}
use Rattle.rl_base.specs.declared.kind.Side.TheVariants.{Left, Right}
use Rattle.rl_base.specs.declared.place.Place.{Place}
use Rattle.rl_base.specs.declared.place.Place.TheVariants.{Top, Format, Segments, Boxes, BoxItem, BoxName, BoxKind, BoxSide, Trains, TrainItem, TrainName}
use Rattle.rl_syntax.specs.declared.keys.Keys.{Keys}
use Rattle.rl_syntax.specs.declared.names.NameList.{NameList}
use Rattle.rl_syntax.specs.declared.names.NameList.TheVariants as lists
use Rattle.rl_syntax.specs.declared.keys.Keys.TheVariants as keys
use Rattle.rl_syntax.specs.DraftReading.{list_place, name_place, name_in, names_of, needed_names, box_of, box_in, boxes_of, train_of, train_in, trains_of}
use Rattle.rl_syntax.specs.DraftReading.{lists_of, draft_of}
use Rattle.rl_syntax.specs.Reading.{Read, ◌>>=◌, needed, optional, each}
use Rattle.rl_syntax.specs.Spelling.{texts, SaysBox, SaysTrain, SayEach, HasItems, SaysDraft}
use Rattle.rl_syntax.specs.Table.{has_other_key, has_format_one, known_table, table_with, text_at, array_at, optional_array}
use Rattle.rl_syntax.specs.Words.{kind_named, side_named, side_of}
use Rattle.toml.specs.Data.{Data, string, integer, float, boolean, datetime, array, table, Items, no_items, item, Members, get_member, as_str, as_array}
use Rattle.toml.specs.Data.{as_table}

-- a reading that goes through gave something at each step
bind_ok : {A B : Type 0} (r : Read A) (f : A → Read B) (y : B) → (r >>= f) ≡ Ok y → (x : A) × (r ≡ Ok x) × (f x ≡ Ok y)
bind_ok (Ok x) f y h = (x, refl, h)
bind_ok (Err p) f y h = cc

needed_ok : {A : Type 0} (p : Place) (o : Option A) (x : A) → needed p o ≡ Ok x → o ≡ Some x
needed_ok p None x h = cc
needed_ok p (Some y) x h = cc

then_some : {A B : Type 0} (f : A → Option B) (o : Option A) (y : B) → option_and_then f o ≡ Some y → (x : A) × (o ≡ Some x) × (f x ≡ Some y)
then_some f None y h = cc
then_some f (Some x) y h = (x, refl, h)

-- what a text, an array and a table are
text_is : (d : Data) (t : List ℕ) → as_str d ≡ Some t → d ≡ string t
text_is (string s) t h = cc
text_is (integer z) t h = cc
text_is (float x) t h = cc
text_is (boolean b) t h = cc
text_is (datetime x) t h = cc
text_is (array ds) t h = cc
text_is (table m) t h = cc

array_is : (d : Data) (ds : Items) → as_array d ≡ Some ds → d ≡ array ds
array_is (string s) t h = cc
array_is (integer z) t h = cc
array_is (float x) t h = cc
array_is (boolean b) t h = cc
array_is (datetime x) t h = cc
array_is (array ds) t h = cc
array_is (table m) t h = cc

table_is : (d : Data) (m : Members) → as_table d ≡ Some m → d ≡ table m
table_is (string s) t h = cc
table_is (integer z) t h = cc
table_is (float x) t h = cc
table_is (boolean b) t h = cc
table_is (datetime x) t h = cc
table_is (array ds) t h = cc
table_is (table m) t h = cc

text_at_is : (key : List ℕ) (m : Members) (t : List ℕ) → text_at key m ≡ Some t → get_member key m ≡ Some (string t)
text_at_is key m t h = let (d, there, is) = then_some as_str (get_member key m) t h in there ∙ ap Some (text_is d t is)

array_at_is : (key : List ℕ) (m : Members) (ds : Items) → array_at key m ≡ Some ds → get_member key m ≡ Some (array ds)
array_at_is key m ds h = let (d, there, is) = then_some as_array (get_member key m) ds h in there ∙ ap Some (array_is d ds is)

-- a test of a text picks a word
picked : {A : Type 0} (text word : List ℕ) (x y : A) (o : Option A) (spell : A → List ℕ) → spell x ≡ word → (o ≡ Some y → text ≡ spell y)
    → cond (bytes_eq word text) (Some x) o ≡ Some y → text ≡ spell y
picked text word x y o spell same more h =
    by_test (bytes_eq word text) refl h
  where
    by_test : (b : Bool) → bytes_eq word text ≡ b → cond b (Some x) o ≡ Some y → text ≡ spell y
    by_test true e k = sym ((bytes_eq-Decides word text).0 e) ∙ sym same ∙ ap spell (let p : x ≡ y = cc in p)
    by_test false e k = more k

nothing : {A P : Type 0} (x : A) → None ≡ Some x → P
nothing x h = cc

kind_is : (text : List ℕ) (kind : Kind) → kind_named text ≡ Some kind → text ≡ kind_word kind
unfolding kind_named
kind_is text kind =
    picked text (codes "buffer") Buffer kind _ kind_word refl
    (picked text (codes "joint") Joint kind _ kind_word refl
    (picked text (codes "point") Point kind _ kind_word refl
    (picked text (codes "crossing") Crossing kind None kind_word refl (λ h. nothing kind h))))

side_is : (text : List ℕ) (side : Side) → side_named text ≡ Some side → text ≡ side_word side
unfolding side_named
side_is text side =
    picked text (codes "left") Left side _ side_word refl
    (picked text (codes "right") Right side None side_word refl (λ h. nothing side h))

side_stands : (p : Place) (o : Option Data) (side : Option Side) → optional p side_of o ≡ Ok side → o ≡ option_map (λ s. string (side_word s)) side
side_stands p None side h = let e : None ≡ side = cc in ap (option_map (λ s. string (side_word s))) e
side_stands p (Some d) side h =
    let (s, found, is) = bind_ok (needed p (side_of d)) (λ x. Ok (Some x)) side h in
    let (t, there, named) = then_some side_named (as_str d) s (needed_ok p (side_of d) s found) in
    let e : Some s ≡ side = cc in
    ap Some (text_is d t there ∙ ap string (side_is t s named)) ∙ ap (option_map (λ x. string (side_word x))) e

-- the items that were read, one by one
abbrev EachReads : {A : Type 0} → (ℕ → Data → Read A) → ℕ → Items → List A → Type 0
EachReads f i no_items [] = Unit {0}
EachReads f i no_items (x ∷ xs) = ⊥
EachReads f i (item d ds) [] = ⊥
EachReads f i (item d ds) (x ∷ xs) = (f i d ≡ Ok x) × EachReads f (i + 1) ds xs

each_ok : {A : Type 0} (f : ℕ → Data → Read A) (so_far : List A) (ds : Items) (all : List A) → each f so_far ds ≡ Ok all
    → (xs : List A) × (all ≡ so_far ++ xs) × EachReads f (length so_far) ds xs
each_ok f so_far no_items all h = ([], (let e : all ≡ so_far = cc in e ∙ sym (append-nil so_far)), tt)
each_ok f so_far (item d ds) all h =
    let (x, read, more) = bind_ok (f (length so_far) d) (λ x. each f (so_far ++ x ∷ []) ds) all h in
    let (xs, joined, rest) = each_ok f (so_far ++ x ∷ []) ds all more in
    let P : ℕ → Type 0 = λ n. EachReads f n ds xs in
    (x ∷ xs, joined ∙ append_assoc so_far (x ∷ []) xs, (read, subst P (length-append so_far (x ∷ [])) rest))

each_from_none : {A : Type 0} (f : ℕ → Data → Read A) (ds : Items) (xs : List A) → each f [] ds ≡ Ok xs → EachReads f 0 ds xs
each_from_none f ds xs h =
    let (ys, same, reads) = each_ok f [] ds xs h in
    let P : _ → Type 0 = λ zs. EachReads f 0 ds zs in
    subst P (sym same) reads

names_read : (list : NameList) (j : ℕ) (ds : Items) (ts : List (List ℕ)) → EachReads (name_in list) j ds ts → ds ≡ texts ts
names_read list j no_items [] h = refl
names_read list j no_items (t ∷ ts) h = absurd h
names_read list j (item d ds) [] h = absurd h
names_read list j (item d ds) (t ∷ ts) h =
    let here = text_is d t (needed_ok (name_place list j) (as_str d) t h.0) in
    let more = names_read list (j + 1) ds ts h.1 in
    cc

names_stand : (list : NameList) (ds : Items) (ts : List (List ℕ)) → names_of list ds ≡ Ok ts → ds ≡ texts ts
unfolding names_of
names_stand list ds ts h = names_read list 0 ds ts (each_from_none (name_in list) ds ts h)

needed_names_stand : (list : NameList) (key : List ℕ) (m : Members) (ts : List (List ℕ)) → needed_names list (array_at key m) ≡ Ok ts
    → get_member key m ≡ Some (array (texts ts))
needed_names_stand list key m ts h =
    let (ds, found, read) = bind_ok (needed (list_place list) (array_at key m)) (names_of list) ts h in
    array_at_is key m ds (needed_ok (list_place list) (array_at key m) ds found) ∙ ap (λ x. Some (array x)) (names_stand list ds ts read)

name_stands : (p : Place) (key : List ℕ) (m : Members) (t : List ℕ) → needed p (text_at key m) ≡ Ok t → get_member key m ≡ Some (string t)
name_stands p key m t h = text_at_is key m t (needed_ok p (text_at key m) t h)

kind_stands : (p : Place) (key : List ℕ) (m : Members) (kind : Kind) → needed p (option_and_then kind_named (text_at key m)) ≡ Ok kind
    → get_member key m ≡ Some (string (kind_word kind))
kind_stands p key m kind h =
    let (t, there, named) = then_some kind_named (text_at key m) kind (needed_ok p (option_and_then kind_named (text_at key m)) kind h) in
    text_at_is key m t there ∙ ap (λ x. Some (string x)) (kind_is t kind named)

box_says : (i : ℕ) (m : Members) (b : DraftBox) → box_of i m ≡ Ok b → SaysBox m b
unfolding box_of
box_says i m b h =
    let (name, name_ok, after_name) = bind_ok (needed (BoxName i) (text_at (codes "name") m)) _ b h in
    let (kind, kind_ok, after_kind) = bind_ok (needed (BoxKind i) (option_and_then kind_named (text_at (codes "kind") m))) _ b after_name in
    let (arms, arms_ok, after_arms) = bind_ok (needed_names (lists.Arms i) (array_at (codes "arms") m)) _ b after_kind in
    let (side, side_ok, made) = bind_ok (optional (BoxSide i) side_of (get_member (codes "at") m)) _ b after_arms in
    let is : record { name = name; kind = kind; arms = arms; at = side } ≡ b = cc in
    subst (SaysBox m) is (record {
      name = name_stands (BoxName i) (codes "name") m name name_ok;
      kind = kind_stands (BoxKind i) (codes "kind") m kind kind_ok;
      arms = needed_names_stand (lists.Arms i) (codes "arms") m arms arms_ok;
      at = side_stands (BoxSide i) (get_member (codes "at") m) side side_ok;
    })

train_says : (i : ℕ) (m : Members) (t : DraftTrain) → train_of i m ≡ Ok t → SaysTrain m t
unfolding train_of
train_says i m t h =
    let (name, name_ok, after_name) = bind_ok (needed (TrainName i) (text_at (codes "name") m)) _ t h in
    let (route, route_ok, made) = bind_ok (needed_names (lists.Route i) (array_at (codes "route") m)) _ t after_name in
    let is : record { name = name; route = route } ≡ t = cc in
    subst (SaysTrain m) is (record {
      name = name_stands (TrainName i) (codes "name") m name name_ok;
      route = needed_names_stand (lists.Route i) (codes "route") m route route_ok;
    })

-- a table with known keys is a table
known_is : (which : Keys) (d : Data) (m : Members) → table_with which d ≡ Some m → d ≡ table m
known_is which d m h =
    let (n, there, known) = then_some (known_table which) (as_table d) m h in
    table_is d n there ∙ ap table (same (has_other_key which n) n m known)
  where
    same : (b : Bool) (n m : Members) → cond b None (Some n) ≡ Some m → n ≡ m
    same true n m e = cc
    same false n m e = cc

-- each item that was read is a table that says what was read
each_says : {A : Type 0} (Says : Members → A → Type 0) (f : ℕ → Data → Read A)
    → ((i : ℕ) (d : Data) (x : A) → f i d ≡ Ok x → (m : Members) × (d ≡ table m) × Says m x) → (i : ℕ) (ds : Items) (xs : List A) → EachReads f i ds xs
    → SayEach Says ds xs
each_says Says f one i no_items [] h = tt
each_says Says f one i no_items (x ∷ xs) h = absurd h
each_says Says f one i (item d ds) [] h = absurd h
each_says Says f one i (item d ds) (x ∷ xs) h =
    let (m, is, says) = one i d x h.0 in
    let P : Data → Type 0 = λ e. SayEach Says (item e ds) (x ∷ xs) in
    subst P (sym is) (says, each_says Says f one (i + 1) ds xs h.1)

boxes_say : (ds : Items) (bs : List DraftBox) → boxes_of ds ≡ Ok bs → SayEach SaysBox ds bs
unfolding boxes_of
boxes_say ds bs h =
    each_says SaysBox box_in (λ i d b read.
    let (m, found, rest) = bind_ok (needed (BoxItem i) (table_with keys.Box d)) (box_of i) b read in
    (m, known_is keys.Box d m (needed_ok (BoxItem i) (table_with keys.Box d) m found), box_says i m b rest))
    0 ds bs (each_from_none box_in ds bs h)

trains_say : (ds : Items) (ts : List DraftTrain) → trains_of ds ≡ Ok ts → SayEach SaysTrain ds ts
unfolding trains_of
trains_say ds ts h =
    each_says SaysTrain train_in (λ i d t read.
    let (m, found, rest) = bind_ok (needed (TrainItem i) (table_with keys.Train d)) (train_of i) t read in
    (m, known_is keys.Train d m (needed_ok (TrainItem i) (table_with keys.Train d) m found), train_says i m t rest))
    0 ds ts (each_from_none train_in ds ts h)

-- an array that was read, or was left out
array_has : {A : Type 0} (p : Place) (f : Items → Read A) (x : A) (Fit : Items → Type 0) → ((ds : Items) → f ds ≡ Ok x → Fit ds) → (o : Option Data)
    → (optional_array p o >>= f) ≡ Ok x → HasItems Fit o
array_has p f x Fit fits None h = fits no_items h
array_has p f x Fit fits (Some d) h =
    let (ds, found, read) = bind_ok (needed p (as_array d)) f x h in
    let P : Data → Type 0 = λ e. HasItems Fit (Some e) in
    subst P (sym (array_is d ds (needed_ok p (as_array d) ds found))) (fits ds read)

lists_say : (m : Members) (d : Draft) → lists_of m ≡ Ok d → SaysDraft m d
unfolding lists_of
lists_say m d h =
    let (segments, segments_ok, after_segments) = bind_ok (optional_array Segments (get_member (codes "segments") m) >>= names_of lists.Segments) _ d h in
    let (boxes, boxes_ok, after_boxes) = bind_ok (optional_array Boxes (get_member (codes "box") m) >>= boxes_of) _ d after_segments in
    let (trains, trains_ok, made) = bind_ok (optional_array Trains (get_member (codes "train") m) >>= trains_of) _ d after_boxes in
    let is : record { segments = segments; boxes = boxes; trains = trains } ≡ d = cc in
    subst (SaysDraft m) is (record {
      segments = array_has Segments (names_of lists.Segments) segments _ (λ ds. names_stand lists.Segments ds segments)
          (get_member (codes "segments") m) segments_ok;
      boxes = array_has Boxes boxes_of boxes _ (λ ds. boxes_say ds boxes) (get_member (codes "box") m) boxes_ok;
      trains = array_has Trains trains_of trains _ (λ ds. trains_say ds trains) (get_member (codes "train") m) trains_ok;
    })

guarded : (a b : Bool) (p q : Place) (r : Read Draft) (d : Draft) → cond a (Err p) (cond b r (Err q)) ≡ Ok d → r ≡ Ok d
guarded true b p q r d h = cc
guarded false true p q r d h = h
guarded false false p q r d h = cc

pub draft_says : (m : Members) (d : Draft) → draft_of m ≡ Ok d → SaysDraft m d
unfolding draft_of
draft_says m d h = lists_say m d (guarded (has_other_key keys.Network m) (has_format_one m) Top Format (lists_of m) d h)
