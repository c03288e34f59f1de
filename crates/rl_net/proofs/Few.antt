-- What a draft holds at most, once no count is broken.
use Rattle.std.proofs.Common.{◌≡◌, ℕ, ◌≤◌, Bool, false, not, ltb, eqb, length, slice_get, Option, Some, None, refl, arith}
use Rattle.std.specs.Option.{option_map_or}
use Rattle.std.proofs.lemmas.Option.{slice_get_within}
use Rattle.std.proofs.lemmas.Bool.Decides.{nat_tests}
use Rattle.rl_base.specs.declared.limits.TheConstants.{MAX_ROUTE}
use Rattle.rl_base.specs.declared.kind.Kind.{Kind}
use Rattle.rl_base.specs.declared.kind.Kind.TheVariants.{Buffer, Joint, Point, Crossing}
use Rattle.rl_base.specs.declared.place.Place.TheVariants.{TrainRoute, BoxArms}
use Rattle.rl_base.specs.declared.draft.DraftBox.{DraftBox}
use Rattle.rl_base.specs.declared.draft.DraftTrain.{DraftTrain}
use Rattle.rl_base.specs.declared.draft.Draft.{Draft}
use Rattle.rl_base.specs.Kind.{arms_of}
use Rattle.rl_drafts.specs.Refusals.{breaks}
use Rattle.rl_drafts.specs.Search.{among_boxes, among_trains, arms_at, route_length}
use Rattle.rl_net.proofs.Search.{none_below, none_tried, tried}

-- no route is too long
pub routes_short : (d : Draft) → among_trains d 5 TrainRoute ≡ None → (i : ℕ) → route_length d i ≤ MAX_ROUTE
routes_short d none i = at (slice_get d.trains i) refl
  where
    at : (o : Option DraftTrain) → slice_get d.trains i ≡ o → option_map_or (λ (t : DraftTrain). length t.route) o 0 ≤ MAX_ROUTE
    at None e = omega arith
    at (Some t) e =
        let test : ℕ → Bool = λ k. breaks d 5 (TrainRoute k) in
        let fine : test i ≡ false =
        none_tried test (λ k. TrainRoute k) i (none_below (tried test (λ k. TrainRoute k)) (length d.trains) i none (slice_get_within d.trains i t e)) in
        let short : ltb MAX_ROUTE (length t.route) ≡ false = rw e at fine in
        grind (arith, nat_tests)

-- no kind has more than four arms
four_arms : (kind : Kind) → arms_of kind ≤ 4
four_arms Buffer = omega arith
four_arms Joint = omega arith
four_arms Point = omega arith
four_arms Crossing = omega arith

-- no box has too many arms
pub arms_few : (d : Draft) → among_boxes d 7 BoxArms ≡ None → (i : ℕ) → arms_at d i ≤ 4
arms_few d none i = at (slice_get d.boxes i) refl
  where
    not_false : (a b : ℕ) → not (eqb a b) ≡ false → a ≡ b
    not_false a b e = grind (arith, nat_tests)

    at : (o : Option DraftBox) → slice_get d.boxes i ≡ o → option_map_or (λ (x : DraftBox). length x.arms) o 0 ≤ 4
    at None e = omega arith
    at (Some x) e =
        let test : ℕ → Bool = λ k. breaks d 7 (BoxArms k) in
        let fine : test i ≡ false =
        none_tried test (λ k. BoxArms k) i (none_below (tried test (λ k. BoxArms k)) (length d.boxes) i none (slice_get_within d.boxes i x e)) in
        let right : not (eqb (length x.arms) (arms_of x.kind)) ≡ false = rw e at fine in
        omega (arith, not_false _ _ right, four_arms x.kind)

-- how many arms or route places there are, at an item that is there
pub arms_at_box : (d : Draft) (i : ℕ) (x : DraftBox) → slice_get d.boxes i ≡ Some x → arms_at d i ≡ length x.arms
arms_at_box d i x e = rw e refl

pub route_length_train : (d : Draft) (i : ℕ) (t : DraftTrain) → slice_get d.trains i ≡ Some t → route_length d i ≡ length t.route
route_length_train d i t e = rw e refl
