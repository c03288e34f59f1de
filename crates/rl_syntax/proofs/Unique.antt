-- A table says one draft at most.
use Rattle.std.proofs.Common.{◌≡◌, ℕ, codes, List, [], ◌∷◌, Option, Some, None, option_map, refl, ap, sym, ◌∙◌}
use Rattle.rl_base.specs.declared.draft.Draft.{Draft}
use Rattle.rl_base.specs.declared.draft.DraftBox.{DraftBox}
use Rattle.rl_base.specs.declared.draft.DraftTrain.{DraftTrain}
use Rattle.rl_base.specs.Kind.{kind_word, side_word}
use Rattle.rl_base.specs.declared.kind.Kind.{Kind}
use Rattle.rl_base.specs.declared.kind.Kind.TheVariants.{Buffer, Joint, Point, Crossing}
use Rattle.rl_base.specs.declared.kind.Side.{Side}
use Rattle.rl_base.specs.declared.kind.Side.TheVariants.{Left, Right}
use Rattle.rl_syntax.specs.Spelling.{texts, SaysBox, SaysTrain, SayEach, HasItems, SaysDraft}
use Rattle.rl_syntax.specs.Words.{kind_named, side_named}
use Rattle.toml.specs.Data.{Data, string, integer, float, boolean, datetime, array, table, Items, no_items, item, Members, get_member}

same_texts : (ts us : List (List ℕ)) → texts ts ≡ texts us → ts ≡ us
same_texts [] [] h = refl
same_texts [] (u ∷ us) h = cc
same_texts (t ∷ ts) [] h = cc
same_texts (t ∷ ts) (u ∷ us) h =
    let heads : string t ≡ string u = cc in
    let tails : texts ts ≡ texts us = cc in
    let more = same_texts ts us tails in
    cc

pub named_again : (k : Kind) → kind_named (kind_word k) ≡ Some k
unfolding kind_named
named_again Buffer = refl
named_again Joint = refl
named_again Point = refl
named_again Crossing = refl

same_kind : (k l : Kind) → kind_word k ≡ kind_word l → k ≡ l
same_kind k l h = let e : Some k ≡ Some l = sym (named_again k) ∙ ap kind_named h ∙ named_again l in cc

pub side_again : (s : Side) → side_named (side_word s) ≡ Some s
unfolding side_named
side_again Left = refl
side_again Right = refl

same_side : (s t : Side) → side_word s ≡ side_word t → s ≡ t
same_side s t h = let e : Some s ≡ Some t = sym (side_again s) ∙ ap side_named h ∙ side_again t in cc

same_at : (o p : Option Side) → option_map (λ side. string (side_word side)) o ≡ option_map (λ side. string (side_word side)) p → o ≡ p
same_at None None h = refl
same_at None (Some t) h = cc
same_at (Some s) None h = cc
same_at (Some s) (Some t) h = let e : side_word s ≡ side_word t = cc in ap Some (same_side s t e)

box_parts : (b c : DraftBox) → b.name ≡ c.name → b.kind ≡ c.kind → b.arms ≡ c.arms → b.at ≡ c.at → b ≡ c
box_parts b c name kind arms at =
    make b.name c.name name b.kind c.kind kind b.arms c.arms arms b.at c.at at
  where
    make : (n n' : List ℕ) → n ≡ n' → (k k' : Kind) → k ≡ k' → (a a' : List (List ℕ)) → a ≡ a' → (s s' : Option Side) → s ≡ s'
        → (let x : DraftBox = record { name = n; kind = k; arms = a; at = s } in x) ≡ record { name = n'; kind = k'; arms = a'; at = s' }
    make n n' e k k' f a a' g s s' h = rw (e, f, g, h)

train_parts : (t u : DraftTrain) → t.name ≡ u.name → t.route ≡ u.route → t ≡ u
train_parts t u name route = make t.name u.name name t.route u.route route
  where
    make : (n n' : List ℕ) → n ≡ n' → (r r' : List (List ℕ)) → r ≡ r'
        → (let x : DraftTrain = record { name = n; route = r } in x) ≡ record { name = n'; route = r' }
    make n n' e r r' f = rw (e, f)

draft_parts : (d e : Draft) → d.segments ≡ e.segments → d.boxes ≡ e.boxes → d.trains ≡ e.trains → d ≡ e
draft_parts d e segments boxes trains = make d.segments e.segments segments d.boxes e.boxes boxes d.trains e.trains trains
  where
    make : (s s' : List (List ℕ)) → s ≡ s' → (b b' : List DraftBox) → b ≡ b' → (t t' : List DraftTrain) → t ≡ t'
        → (let x : Draft = record { segments = s; boxes = b; trains = t } in x) ≡ record { segments = s'; boxes = b'; trains = t' }
    make s s' e b b' f t t' g = rw (e, f, g)

same_box : (m : Members) (b c : DraftBox) → SaysBox m b → SaysBox m c → b ≡ c
same_box m b c says also =
    let name : b.name ≡ c.name = (let e = sym says.name ∙ also.name in cc) in
    let kind_words : kind_word b.kind ≡ kind_word c.kind = (let e = sym says.kind ∙ also.kind in cc) in
    let kind = same_kind b.kind c.kind kind_words in
    let arms_texts : texts b.arms ≡ texts c.arms = (let e = sym says.arms ∙ also.arms in cc) in
    let arms = same_texts b.arms c.arms arms_texts in
    let at = same_at b.at c.at (sym says.at ∙ also.at) in
    box_parts b c name kind arms at

same_train : (m : Members) (t u : DraftTrain) → SaysTrain m t → SaysTrain m u → t ≡ u
same_train m t u says also =
    let name : t.name ≡ u.name = (let e = sym says.name ∙ also.name in cc) in
    let route_texts : texts t.route ≡ texts u.route = (let e = sym says.route ∙ also.route in cc) in
    let route = same_texts t.route u.route route_texts in
    train_parts t u name route

same_each : {A : Type 0} (Says : Members → A → Type 0) → ((m : Members) (x y : A) → Says m x → Says m y → x ≡ y) → (ds : Items) (xs ys : List A)
    → SayEach Says ds xs → SayEach Says ds ys → xs ≡ ys
same_each Says one no_items [] [] h k = refl
same_each Says one no_items [] (y ∷ ys) h k = absurd k
same_each Says one no_items (x ∷ xs) ys h k = absurd h
same_each Says one (item d ds) [] ys h k = absurd h
same_each Says one (item d ds) (x ∷ xs) [] h k = absurd k
same_each Says one (item (table m) ds) (x ∷ xs) (y ∷ ys) h k =
    let here = one m x y h.0 k.0 in
    let more = same_each Says one ds xs ys h.1 k.1 in
    cc
same_each Says one (item (string s) ds) (x ∷ xs) (y ∷ ys) h k = absurd h
same_each Says one (item (integer s) ds) (x ∷ xs) (y ∷ ys) h k = absurd h
same_each Says one (item (float s) ds) (x ∷ xs) (y ∷ ys) h k = absurd h
same_each Says one (item (boolean s) ds) (x ∷ xs) (y ∷ ys) h k = absurd h
same_each Says one (item (datetime s) ds) (x ∷ xs) (y ∷ ys) h k = absurd h
same_each Says one (item (array s) ds) (x ∷ xs) (y ∷ ys) h k = absurd h

same_items : {P : Type 0} (F G : Items → Type 0) (o : Option Data) → HasItems F o → HasItems G o → ((ds : Items) → F ds → G ds → P) → P
same_items F G None h k one = one no_items h k
same_items F G (Some (array ds)) h k one = one ds h k
same_items F G (Some (string s)) h k one = absurd h
same_items F G (Some (integer s)) h k one = absurd h
same_items F G (Some (float s)) h k one = absurd h
same_items F G (Some (boolean s)) h k one = absurd h
same_items F G (Some (datetime s)) h k one = absurd h
same_items F G (Some (table s)) h k one = absurd h

pub same_draft : (m : Members) (d e : Draft) → SaysDraft m d → SaysDraft m e → d ≡ e
same_draft m d e says also =
    draft_parts d e
    (same_items (λ ds. ds ≡ texts d.segments) (λ ds. ds ≡ texts e.segments) (get_member (codes "segments") m) says.segments also.segments
    (λ ds f g. same_texts d.segments e.segments (sym f ∙ g)))
    (same_items (λ ds. SayEach SaysBox ds d.boxes) (λ ds. SayEach SaysBox ds e.boxes) (get_member (codes "box") m) says.boxes also.boxes
    (λ ds f g. same_each SaysBox same_box ds d.boxes e.boxes f g))
    (same_items (λ ds. SayEach SaysTrain ds d.trains) (λ ds. SayEach SaysTrain ds e.trains) (get_member (codes "train") m) says.trains also.trains
    (λ ds f g. same_each SaysTrain same_train ds d.trains e.trains f g))
