-- What the box at a place of a route connects, and where routes start.
use Rattle.std.proofs.Common.{◌≡◌, ℕ, zero, suc, ◌+◌, ◌-◌, ◌<◌, Bool, true, false, cond, eqb, List, [], ◌∷◌, map, slice_get, Option, Some, None, option_map, refl, sym, ap, ◌∙◌, arith, bytes_eq}
use Rattle.std.specs.Option.{option_and_then}
use Rattle.std.specs.List.{find, list_any}
use Rattle.std.proofs.lemmas.Option.{slice_get_within}
use Rattle.std.proofs.lemmas.Bool.Decides.{nat_tests}
use Rattle.rl_base.specs.declared.place.Place.{Place}
use Rattle.rl_base.specs.declared.place.Place.TheVariants.{RouteItem}
use Rattle.rl_base.specs.declared.draft.DraftBox.{DraftBox}
use Rattle.rl_base.specs.declared.draft.DraftTrain.{DraftTrain}
use Rattle.rl_base.specs.declared.draft.Draft.{Draft}
use Rattle.rl_drafts.specs.Drafts.{number_in, box_names}
use Rattle.rl_drafts.specs.Refusals.{box_named, breaks, connects_names, fits_at, is_start, starts_below}
use Rattle.rl_drafts.specs.Search.{among_places_of, first_below, route_length}
use Rattle.rl_net.proofs.Search.{tried, tried_found}

-- the item at one place more of a list with one item more
at_next : {X : Type 0} (y : X) (ys : List X) (o : Option ℕ) → option_and_then (slice_get (y ∷ ys)) (option_map suc o) ≡ option_and_then (slice_get ys) o
at_next y ys None = refl
at_next y ys (Some i) = refl

-- the first box of a name stands at the number of the name
find_named : (boxes : List DraftBox) (name : List ℕ)
    → find (λ (x : DraftBox). bytes_eq x.name name) boxes ≡ option_and_then (slice_get boxes) (number_in (map (λ (x : DraftBox). x.name) boxes) name)
find_named [] name = refl
find_named (y ∷ ys) name =
    step (bytes_eq y.name name) (find (λ (x : DraftBox). bytes_eq x.name name) ys) (number_in (map (λ (x : DraftBox). x.name) ys) name) (find_named ys name)
  where
    step : (b : Bool) (u : Option DraftBox) (o : Option ℕ) → u ≡ option_and_then (slice_get ys) o
        → cond b (Some y) u ≡ option_and_then (slice_get (y ∷ ys)) (cond b (Some 0) (option_map suc o))
    step true u o h = refl
    step false u o h = h ∙ sym (at_next y ys o)

-- the box at a place of a route is the one of that number
pub fits_at_box : (d : Draft) (route : List (List ℕ)) (j : ℕ) (name : List ℕ) (b : ℕ) (x : DraftBox) → slice_get route j ≡ Some name
    → Some b ≡ number_in (box_names d) name → slice_get d.boxes b ≡ Some x
    → fits_at d route j ≡ connects_names x (slice_get route (j - 1)) (slice_get route (j + 1))
fits_at_box d route j name b x here number there =
    let named : box_named d name ≡ Some x = find_named d.boxes name ∙ ap (option_and_then (slice_get d.boxes)) (sym number) ∙ there in
    rw (here, named) refl

-- a place that names no box fits nothing
pub fits_at_none : (d : Draft) (route : List (List ℕ)) (j : ℕ) (name : List ℕ) → slice_get route j ≡ Some name → None ≡ number_in (box_names d) name
    → fits_at d route j ≡ false
fits_at_none d route j name here number =
    let named : box_named d name ≡ None = find_named d.boxes name ∙ ap (option_and_then (slice_get d.boxes)) (sym number) in
    rw (here, named) refl

-- an earlier train starts where train i does
pub start_is_shared : (d : Draft) (i : ℕ) (t : DraftTrain) (name : List ℕ) → slice_get d.trains i ≡ Some t → slice_get t.route 0 ≡ Some name
    → is_start (starts_below d i) name ≡ true → among_places_of d 15 i ≡ Some (RouteItem i 0)
start_is_shared d i t name here first shared =
    let broken : breaks d 15 (RouteItem i 0) ≡ true = rw (here, first) shared in
    let some : 0 < route_length d i = rw here (slice_get_within t.route 0 name first) in
    tried_found (λ j. breaks d 15 (RouteItem i j)) (λ j. RouteItem i j) 0 (route_length d i) refl broken some

-- a search that finds nothing anywhere
all_none : (f : ℕ → Option Place) → ((j : ℕ) → f j ≡ None) → (n : ℕ) → first_below f n ≡ None
all_none f none zero = refl
all_none f none (suc n) = rw (all_none f none n, none n) refl

-- no place after the first breaks the rule
unbroken : (d : Draft) (i : ℕ) → breaks d 15 (RouteItem i 0) ≡ false → (j : ℕ) → breaks d 15 (RouteItem i j) ≡ false
unbroken d i first zero = first
unbroken d i first (suc j) =
    let later : eqb (suc j) 0 ≡ false = grind (arith, nat_tests) in
    rw later refl

-- no earlier train starts where train i does
pub start_is_own : (d : Draft) (i : ℕ) (t : DraftTrain) (name : List ℕ) → slice_get d.trains i ≡ Some t → slice_get t.route 0 ≡ Some name
    → is_start (starts_below d i) name ≡ false → among_places_of d 15 i ≡ None
start_is_own d i t name here first own =
    let right : breaks d 15 (RouteItem i 0) ≡ false = rw (here, first) own in
    all_none (tried (λ j. breaks d 15 (RouteItem i j)) (λ j. RouteItem i j)) (λ j. rw (unbroken d i right j) refl) (route_length d i)

-- a train without a route starts nowhere
pub no_start : (d : Draft) (i : ℕ) (t : DraftTrain) → slice_get d.trains i ≡ Some t → t.route ≡ [] → among_places_of d 15 i ≡ None
no_start d i t here empty =
    let none : route_length d i ≡ 0 = rw (here, empty) refl in
    rw none refl

-- a test of each first name, one by one
pub list_any-map : {X Y : Type 0} (f : X → Y) (test : Y → Bool) (xs : List X) → list_any test (map f xs) ≡ list_any (λ x. test (f x)) xs
list_any-map f test [] = refl
list_any-map f test (x ∷ xs) = rw (list_any-map f test xs) refl
