-- A route along a walk breaks no rule on routes.
use Rattle.std.proofs.Common.{◌≡◌, ℕ, zero, suc, ◌+◌, ◌-◌, ◌*◌, ◌%◌, ◌<◌, Bool, true, false, cond, not, eqb, ◌&&◌, ◌||◌, List, [], ◌∷◌, length, map, slice_get, Option, Some, None, option_map, option_and_then, unwrap_or, refl, sym, ap, ap₂, subst, ◌∙◌, arith}
use Rattle.std.specs.Option.{option_map_or}
use Rattle.std.proofs.lemmas.List.{length-map}
use Rattle.std.proofs.lemmas.Option.{none-some, same_Some}
use Rattle.rl_base.specs.declared.ids.SegId.{SegId}
use Rattle.rl_base.specs.declared.kind.Kind.{Kind}
use Rattle.rl_base.specs.declared.kind.Kind.TheVariants.{Buffer}
use Rattle.rl_base.specs.declared.kind.Side.TheVariants.{Left, Right}
use Rattle.rl_base.specs.declared.draft.DraftBox.{DraftBox}
use Rattle.rl_base.specs.declared.draft.Draft.{Draft}
use Rattle.rl_model.specs.declared.network.Segment.{Segment}
use Rattle.rl_model.specs.declared.network.SwitchBox.{SwitchBox}
use Rattle.rl_model.specs.Network.{IsNetwork, arm_of, box_name, joined, kind_of, segment_at, segment_name}
use Rattle.rl_drafts.specs.Drafts.{box_names, box_of, network_of, number_in, segment_number, segment_of}
use Rattle.rl_drafts.specs.Refusals.{box_named, connects_names, fits_at, is_among}
use Rattle.rl_drafts.proofs.Accepted.{IsSound}
use Rattle.rl_drafts.proofs.Lookups.{item_mapped, item_within, map_some, mapped_item}
use Rattle.rl_drafts.proofs.Numbers.{is_among-item, number_in-item, number_in-place}
use Rattle.rl_net.proofs.Passages.{fits_at_box}
use Rattle.rl_plan.specs.declared.plan.PlanStep.{PlanStep}
use Rattle.rl_plan.specs.Walks.{AreNeighbours, IsWalk}
use Rattle.rl_plan.specs.Routes.{route_names}
use Rattle.rl_plan.proofs.Arms.{IsAtArm-from_arm}
use Rattle.rl_plan.proofs.BothWays.{between_there, neighbour_there, neighbours_arms}

-- a segment of the network has the name that the draft gives it
segment_named : (d : Draft) (s : ℕ) → s < length (network_of d).segments
    → (name : List ℕ) × (slice_get d.segments s ≡ Some name) × (segment_name (network_of d) s ≡ name)
segment_named d s there =
    let h = item_within d.segments s (subst (λ (n : ℕ). s < n) (length-map d.segments (segment_of d)) there) in
    (h.0, h.1, ap (λ (o : Option Segment). option_map_or (λ (g : Segment). g.name) o []) (item_mapped (segment_of d) d.segments s h.0 h.1))

-- so has a box
named_box : (d : Draft) (b : ℕ) → b < length (network_of d).boxes
    → (x : DraftBox) × (slice_get d.boxes b ≡ Some x) × (box_name (network_of d) b ≡ x.name)
named_box d b there =
    let h = item_within d.boxes b (subst (λ (n : ℕ). b < n) (length-map d.boxes (box_of d)) there) in
    (h.0, h.1, ap (λ (o : Option SwitchBox). option_map_or (λ (x : SwitchBox). x.name) o []) (item_mapped (box_of d) d.boxes b h.0 h.1))

-- a name whose number is that of segment s is the name of segment s
name_placed : (d : Draft) (name : List ℕ) (q s : ℕ) (r : SegId) → number_in d.segments name ≡ Some q → segment_number d name ≡ r → r.0 ≡ s
    → slice_get d.segments s ≡ Some name
name_placed d name q s r known at is =
    let same : q ≡ s = sym (ap (λ (o : Option ℕ). unwrap_or o 0) known) ∙ ap (λ (x : SegId). x.0) at ∙ is in
    subst (λ (k : ℕ). slice_get d.segments k ≡ Some name) same (number_in-item d.segments name q known)

-- the arm of a segment at a box is the one that has its name
arm_named : (d : Draft) (s b i : ℕ) (x : DraftBox) (name : List ℕ) → IsSound d → IsNetwork (network_of d) → slice_get d.boxes b ≡ Some x
    → slice_get d.segments s ≡ Some name → arm_of (network_of d) s b ≡ Some i → number_in x.arms name ≡ Some i
arm_named d s b i x name sound network box segment arm =
    let at = (IsAtArm-from_arm (network_of d) s b i network arm).segment in
    let read : segment_at (network_of d) b i ≡ option_map (λ (r : SegId). r.0) (slice_get (map (segment_number d) x.arms) i) =
    ap (option_and_then (λ (w : SwitchBox). option_map (λ (r : SegId). r.0) (slice_get w.arms i))) {y = Some (box_of d x)}
    (item_mapped (box_of d) d.boxes b x box) in
    let number = map_some (λ (r : SegId). r.0) (slice_get (map (segment_number d) x.arms) i) s (sym read ∙ at) in
    let there = mapped_item (segment_number d) x.arms i number.0 number.1 in
    let known = sound.arm_names b i there.0 (record { item = x; box = box; arm = there.1 }) in
    let placed = name_placed d there.0 known.0 s number.0 known.1 there.2 number.2 in
    let same : there.0 ≡ name = same_Some there.0 name (sym placed ∙ segment) in
    number_in-place x.arms (sound.arms b x box) name i (subst (λ (w : List ℕ). slice_get x.arms i ≡ Some w) same there.1)

-- what a box connects at some side, by its kind and two arms
abbrev connects_some : Kind → Option ℕ → Option ℕ → Bool
connects_some kind p q = joined kind Left p q || joined kind Right p q

-- a box connects by their names what it connects by their numbers
names_connected : (d : Draft) (b s r : ℕ) (x : DraftBox) (n m : List ℕ) → IsSound d → IsNetwork (network_of d) → slice_get d.boxes b ≡ Some x
    → slice_get d.segments s ≡ Some n → slice_get d.segments r ≡ Some m → AreNeighbours (network_of d) b s r → connects_names x (Some n) (Some m) ≡ true
names_connected d b s r x n m sound network box first second near =
    let net = network_of d in
    let arms = neighbours_arms net b s r near in
    let one : arm_of net s b ≡ number_in x.arms n =
    arms.0.1 ∙ sym (arm_named d s b arms.0.0 x n sound network box first arms.0.1) in
    let two : arm_of net r b ≡ number_in x.arms m =
    arms.1.1 ∙ sym (arm_named d r b arms.1.0 x m sound network box second arms.1.1) in
    let kind : kind_of net b ≡ x.kind =
    ap (λ (o : Option SwitchBox). option_map_or (λ (w : SwitchBox). w.kind) o Buffer) (item_mapped (box_of d) d.boxes b x box) in
    subst (λ (p : Option ℕ). connects_some x.kind p (number_in x.arms m) ≡ true) one
    (subst (λ (q : Option ℕ). connects_some x.kind (arm_of net s b) q ≡ true) two
    (subst (λ (k : Kind). connects_some k (arm_of net s b) (arm_of net r b) ≡ true) kind near))

-- a route begins with its first segment
first_name : (d : Draft) (s : ℕ) (steps : List PlanStep) → slice_get (route_names (network_of d) s steps) 0 ≡ Some (segment_name (network_of d) s)
first_name d s [] = refl
first_name d s (step ∷ steps) = refl

-- the first box of a route fits
first_fits : (d : Draft) (b s r : ℕ) (steps : List PlanStep) → IsSound d → IsNetwork (network_of d) → s < length (network_of d).segments
    → AreNeighbours (network_of d) b s r
    → fits_at d (segment_name (network_of d) s ∷ box_name (network_of d) b ∷ route_names (network_of d) r steps) 1 ≡ true
first_fits d b s r steps sound network there near =
    let net = network_of d in
    let n = segment_named d s there in
    let m = segment_named d r (neighbour_there net b s r near) in
    let x = named_box d b (between_there net b s r network near) in
    let number : Some b ≡ number_in (box_names d) (box_name net b) =
    sym (number_in-place (box_names d) sound.boxes (box_name net b) b
    (item_mapped (λ (w : DraftBox). w.name) d.boxes b x.0 x.1 ∙ ap (λ (w : List ℕ). Some w) (sym x.2))) in
    let route = segment_name net s ∷ box_name net b ∷ route_names net r steps in
    let after : slice_get (route_names net r steps) 0 ≡ Some m.0 = first_name d r steps ∙ ap (λ (w : List ℕ). Some w) m.2 in
    let before : slice_get route 0 ≡ Some n.0 = ap (λ (w : List ℕ). Some w) n.2 in
    fits_at_box d route 1 (box_name net b) b x.0 refl number x.1
    ∙ subst (λ (o : Option (List ℕ)). connects_names x.0 o (slice_get (route_names net r steps) 0) ≡ true) (sym before)
    (subst (λ (o : Option (List ℕ)). connects_names x.0 (Some n.0) o ≡ true) (sym after)
    (names_connected d b s r x.0 n.0 m.0 sound network x.1 n.1 m.1 near))

-- a route has a name more than twice its steps
pub route_length : (d : Draft) (s : ℕ) (steps : List PlanStep) → length (route_names (network_of d) s steps) ≡ suc (2 * length steps)
route_length d s [] = refl
route_length d s (step ∷ steps) = let rest = route_length d step.s.0 steps in omega (arith, rest)

-- its names are in turn those of segments and of boxes
pub names_in_turn : (d : Draft) (to s : ℕ) (steps : List PlanStep) → IsNetwork (network_of d) → s < length (network_of d).segments
    → IsWalk (network_of d) to s steps → (j : ℕ) (name : List ℕ) → slice_get (route_names (network_of d) s steps) j ≡ Some name
    → is_among (cond (eqb (j % 2) 0) d.segments (box_names d)) name ≡ true
names_in_turn d to s [] network there walk zero name is =
    let n = segment_named d s there in
    is_among-item d.segments name s (n.1 ∙ ap (λ (w : List ℕ). Some w) (sym n.2) ∙ is)
names_in_turn d to s [] network there walk (suc j) name is = absurd (none-some name is)
names_in_turn d to s (step ∷ steps) network there walk zero name is =
    let n = segment_named d s there in
    is_among-item d.segments name s (n.1 ∙ ap (λ (w : List ℕ). Some w) (sym n.2) ∙ is)
names_in_turn d to s (step ∷ steps) network there walk (suc zero) name is =
    let x = named_box d step.b.0 (between_there (network_of d) step.b.0 s step.s.0 network walk.0) in
    is_among-item (box_names d) name step.b.0
    (item_mapped (λ (w : DraftBox). w.name) d.boxes step.b.0 x.0 x.1 ∙ ap (λ (w : List ℕ). Some w) (sym x.2) ∙ is)
names_in_turn d to s (step ∷ steps) network there walk (suc (suc j)) name is =
    let same : j % 2 ≡ suc (suc j) % 2 = omega arith in
    subst (λ (k : ℕ). is_among (cond (eqb k 0) d.segments (box_names d)) name ≡ true) same
    (names_in_turn d to step.s.0 steps network (neighbour_there (network_of d) step.b.0 s step.s.0 walk.0) walk.1 j name is)

-- what fits in the rest of a route fits in the route
fits_further : (d : Draft) (a b : List ℕ) (rest : List (List ℕ)) (j : ℕ) → fits_at d (a ∷ b ∷ rest) (suc (suc (suc j))) ≡ fits_at d rest (suc j)
fits_further d a b rest j =
    let before : suc (suc (suc j)) - 1 ≡ suc (suc j) = omega arith in
    let after : suc (suc (suc j)) + 1 ≡ suc (suc (suc j + 1)) = omega arith in
    let low : j ≡ suc j - 1 = omega arith in
    let box = option_and_then (box_named d) (slice_get rest (suc j)) in
    ap₂
    (λ (p q : ℕ). option_map_or (λ (x : DraftBox). connects_names x (slice_get (a ∷ b ∷ rest) p) (slice_get (a ∷ b ∷ rest) q)) box false)
    before after
    ∙ ap (λ (p : ℕ). option_map_or (λ (x : DraftBox). connects_names x (slice_get rest p) (slice_get rest (suc j + 1))) box false) low

-- each of its boxes connects the segments before and after it
pub boxes_fit : (d : Draft) (to s : ℕ) (steps : List PlanStep) → IsSound d → IsNetwork (network_of d) → s < length (network_of d).segments
    → IsWalk (network_of d) to s steps → (j : ℕ) → j % 2 ≡ 1 → j < length (route_names (network_of d) s steps)
    → fits_at d (route_names (network_of d) s steps) j ≡ true
boxes_fit d to s [] sound network there walk zero odd within = absurd (omega arith)
boxes_fit d to s [] sound network there walk (suc j) odd within = absurd (omega arith)
boxes_fit d to s (step ∷ steps) sound network there walk zero odd within = absurd (omega arith)
boxes_fit d to s (step ∷ steps) sound network there walk (suc zero) odd within = first_fits d step.b.0 s step.s.0 steps sound network there walk.0
boxes_fit d to s (step ∷ steps) sound network there walk (suc (suc zero)) odd within = absurd (omega arith)
boxes_fit d to s (step ∷ steps) sound network there walk (suc (suc (suc j))) odd within =
    fits_further d (segment_name (network_of d) s) (box_name (network_of d) step.b.0) (route_names (network_of d) step.s.0 steps) j
    ∙ boxes_fit d to step.s.0 steps sound network (neighbour_there (network_of d) step.b.0 s step.s.0 walk.0) walk.1 (suc j) (omega arith) (omega arith)

-- a test fails on an item if it fails on whatever item there is
pub fails_on : {X : Type 0} (test : X → Bool) (o : Option X) → ((x : X) → o ≡ Some x → test x ≡ false) → option_map_or test o false ≡ false
fails_on test None each = refl
fails_on test (Some x) each = each x refl

-- what isn't so where two others are
pub not_so : (p q r : Bool) → (p ≡ true → q ≡ true → r ≡ true) → (p && q && not r) ≡ false
not_so true true r so = ap not (so refl refl)
not_so true false r so = refl
not_so false q r so = refl
