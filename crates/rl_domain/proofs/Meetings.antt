-- Two trains meet by their standings exactly where the world is collided.
use Rattle.std.proofs.Common.{◌≡◌, ℕ, ◌==◌, ◌≢◌, ◌↔◌, Bool, true, false, ◌&&◌, List, [], ◌∷◌, slice_get, Option, Some, None, zero, suc, refl, sym, ap, ◌∙◌, arith, inl, inr}
use Rattle.std.specs.Option.{option_map_or}
use Rattle.std.specs.List.{list_any}
use Rattle.std.proofs.lemmas.Bool.{eq-eqb, eqb-true, and_from, and_parts, or_cases, or_left, or_right, false≢true}
use Rattle.std.proofs.lemmas.Option.{same_Some}
use Rattle.rl_model.specs.declared.network.NetworkPlan.{NetworkPlan}
use Rattle.rl_model.specs.Safety.{Collided, on_a_segment, across_a_box}
use Rattle.rl_domain.specs.declared.states.Passage.{Passage}
use Rattle.rl_domain.specs.declared.states.Standing.{Standing}
use Rattle.rl_domain.specs.States.{stands_on, stands_across, is_across, is_on_one_segment, is_across_one_box, meets, any_meet}
use Rattle.rl_domain.specs.Rows.{Rows, world_of}

-- two trains that stand so are on one segment or across one box
data Meet (x y : Standing) : Type 0 where
  on_one : (s : ℕ) → stands_on s x ≡ true → stands_on s y ≡ true → Meet x y
  at_one : (b from to from2 to2 : ℕ) → stands_across b from to x ≡ true → stands_across b from2 to2 y ≡ true → Meet x y

pub there : {A : Type 0} (f : A → Bool) (o : Option A) → option_map_or f o false ≡ true → (x : A) × (o ≡ Some x) × (f x ≡ true)
there f None is = absurd (false≢true is)
there f (Some x) is = (x, refl, is)

own_segment : (y : Standing) → stands_on y.on.0 y ≡ true
own_segment y = or_left _ _ (eq-eqb y.on.0 y.on.0 refl)

own_head : (y : Standing) (p : Passage) → y.across ≡ Some p → stands_on p.to.0 y ≡ true
own_head y p is = rw is (or_right _ _ (eq-eqb p.to.0 p.to.0 refl))

own_box : (y : Standing) (b : ℕ) (p : Passage) → y.across ≡ Some p → (b == p.b.0) ≡ true → stands_across b y.on.0 p.to.0 y ≡ true
own_box y b p is at = rw is (and_from _ _ (and_from _ _ at (eq-eqb y.on.0 y.on.0 refl)) (eq-eqb p.to.0 p.to.0 refl))

meet_from : (x y : Standing) → meets x y ≡ true → Meet x y
meet_from x y is =
    elim (or_cases (is_on_one_segment x y) (is_across_one_box x y) is) [
      | inl segment ↦
          elim (or_cases (stands_on y.on.0 x) (option_map_or (λ (p : Passage). stands_on p.to.0 x) y.across false) segment) [
            | inl tail ↦ on_one y.on.0 tail (own_segment y)
            | inr head ↦ let p = there (λ (p : Passage). stands_on p.to.0 x) y.across head in on_one p.0.to.0 p.2 (own_head y p.0 p.1)
          ]
      | inr box ↦
          let p = there (λ (p : Passage). is_across p.b.0 x) y.across box in
          let q = there (λ (q : Passage). p.0.b.0 == q.b.0) x.across p.2 in
          at_one p.0.b.0 x.on.0 q.0.to.0 y.on.0 p.0.to.0 (own_box x p.0.b.0 q.0 q.1 q.2) (own_box y p.0.b.0 p.0 p.1 (eq-eqb p.0.b.0 p.0.b.0 refl))
    ]

across_at : (b from to : ℕ) (x : Standing) → stands_across b from to x ≡ true → (p : Passage) × (x.across ≡ Some p) × (b ≡ p.b.0)
across_at b from to x is =
    let p = there (λ (p : Passage). b == p.b.0 && from == x.on.0 && to == p.to.0) x.across is in
    let first = and_parts (b == p.0.b.0 && from == x.on.0) (to == p.0.to.0) p.2 in
    (p.0, p.1, eqb-true b p.0.b.0 (and_parts (b == p.0.b.0) (from == x.on.0) first.0).0)

same_segment : (s : ℕ) (x y : Standing) → stands_on s x ≡ true → stands_on s y ≡ true → is_on_one_segment x y ≡ true
same_segment s x y is too =
    elim (or_cases (s == y.on.0) (option_map_or (λ (p : Passage). s == p.to.0) y.across false) too) [
      | inl tail ↦ let on : stands_on y.on.0 x ≡ true = rw (← eqb-true s y.on.0 tail) is in or_left _ _ on
      | inr head ↦
          let p = there (λ (p : Passage). s == p.to.0) y.across head in
          let on : stands_on p.0.to.0 x ≡ true = rw (← eqb-true s p.0.to.0 p.2) is in
          rw p.1 (or_right _ _ on)
    ]

from_meet : (x y : Standing) → Meet x y → meets x y ≡ true
from_meet x y (on_one s is too) = or_left _ _ (same_segment s x y is too)
from_meet x y (at_one b from to from2 to2 is too) =
    let q = across_at b from to x is in
    let p = across_at b from2 to2 y too in
    rw (p.1, q.1) (or_right _ _ (eq-eqb p.0.b.0 q.0.b.0 (sym p.2 ∙ q.2)))

turned : (x y : Standing) → Meet x y → Meet y x
turned x y (on_one s is too) = on_one s too is
turned x y (at_one b from to from2 to2 is too) = at_one b from2 to2 from to too is

-- some two of the standings meet, at different places
record SomeMeet (xs : List Standing) : Type 0 where
  i : ℕ
  j : ℕ
  x : Standing
  y : Standing
  apart : i ≢ j
  is : slice_get xs i ≡ Some x
  too : slice_get xs j ≡ Some y
  meet : Meet x y

any_some : {A : Type 0} (p : A → Bool) (xs : List A) → list_any p xs ≡ true → (k : ℕ) × (y : A) × (slice_get xs k ≡ Some y) × (p y ≡ true)
any_some p [] is = absurd (false≢true is)
any_some p (x ∷ xs) is =
    elim (or_cases (p x) (list_any p xs) is) [
      | inl here ↦ (zero, x, refl, here)
      | inr later ↦ let more = any_some p xs later in (suc more.0, more.1, more.2, more.3)
    ]

any_from : {A : Type 0} (p : A → Bool) (xs : List A) (k : ℕ) (y : A) → slice_get xs k ≡ Some y → p y ≡ true → list_any p xs ≡ true
any_from p [] k y is passes = absurd (cc)
any_from p (x ∷ xs) zero y is passes = let same = same_Some x y is in let here : p x ≡ true = rw same passes in or_left _ _ here
any_from p (x ∷ xs) (suc k) y is passes = or_right _ _ (any_from p xs k y is passes)

some_meet : (xs : List Standing) → any_meet xs ≡ true → SomeMeet xs
some_meet [] is = absurd (false≢true is)
some_meet (x ∷ xs) is =
    elim (or_cases (list_any (meets x) xs) (any_meet xs) is) [
      | inl here ↦
          let other = any_some (meets x) xs here in
          record {
            i = zero;
            j = suc other.0;
            x = x;
            y = other.1;
            apart = λ same. absurd (omega arith);
            is = refl;
            too = other.2;
            meet = meet_from x other.1 other.3;
          }
      | inr later ↦
          let more = some_meet xs later in
          record {
            i = suc more.i;
            j = suc more.j;
            x = more.x;
            y = more.y;
            apart = λ same. more.apart (omega arith);
            is = more.is;
            too = more.too;
            meet = more.meet;
          }
    ]

from_some : (xs : List Standing) (i j : ℕ) (x y : Standing) → i ≢ j → slice_get xs i ≡ Some x → slice_get xs j ≡ Some y → Meet x y → any_meet xs ≡ true
from_some [] i j x y apart is too meet = absurd (cc)
from_some (z ∷ xs) zero zero x y apart is too meet = absurd (apart refl)
from_some (z ∷ xs) zero (suc j) x y apart is too meet =
    let same = same_Some z x is in or_left _ _ (any_from (meets z) xs j y too (rw same (from_meet x y meet)))
from_some (z ∷ xs) (suc i) zero x y apart is too meet =
    let same = same_Some z y too in or_left _ _ (any_from (meets z) xs i x is (rw same (from_meet y x (turned x y meet))))
from_some (z ∷ xs) (suc i) (suc j) x y apart is too meet =
    or_right _ _ (from_some xs i j x y (λ same. apart (ap suc same)) is too meet)

collided_from : (net : NetworkPlan) (rows : Rows) (i j : ℕ) (x y : Standing) → i ≢ j → slice_get rows.trains i ≡ Some x → slice_get rows.trains j ≡ Some y
    → Meet x y → Collided (world_of net rows)
collided_from net rows i j x y apart is too (on_one s on on2) = on_a_segment i j s apart (rw is on) (rw too on2)
collided_from net rows i j x y apart is too (at_one b from to from2 to2 at at2) =
    across_a_box i j b from to from2 to2 apart (rw is at) (rw too at2)

meet_from_collided : (net : NetworkPlan) (rows : Rows) → Collided (world_of net rows) → any_meet rows.trains ≡ true
meet_from_collided net rows (on_a_segment t u s apart is too) =
    let x = there (stands_on s) (slice_get rows.trains t) is in
    let y = there (stands_on s) (slice_get rows.trains u) too in
    from_some rows.trains t u x.0 y.0 apart x.1 y.1 (on_one s x.2 y.2)
meet_from_collided net rows (across_a_box t u b from to from2 to2 apart is too) =
    let x = there (stands_across b from to) (slice_get rows.trains t) is in
    let y = there (stands_across b from2 to2) (slice_get rows.trains u) too in
    from_some rows.trains t u x.0 y.0 apart x.1 y.1 (at_one b from to from2 to2 x.2 y.2)

pub collided_iff : (net : NetworkPlan) (rows : Rows) → (any_meet rows.trains ≡ true) ↔ Collided (world_of net rows)
collided_iff net rows = (
  λ is. let m = some_meet rows.trains is in collided_from net rows m.i m.j m.x m.y m.apart m.is m.too m.meet,
  meet_from_collided net rows,
)
