-- The order of places: each place is no later than itself, of two places one is no later than the other, and two
-- places each of which is no later than the other are the same.
use Rattle.std.proofs.Common.{◌≡◌, ℕ, ◌<◌, Bool, true, cond, ltb, eqb, ◌||◌, ◌&&◌, List, [], ◌∷◌, refl, sym, ap, ap₂, ◌∙◌, arith}
use Rattle.std.proofs.lemmas.Bool.{false≢true, or_right, and_from, eq-eqb}
use Rattle.std.proofs.lemmas.Bool.Decides.{nat_tests}
use Rattle.rl_base.specs.declared.place.Place.{Place}
use Rattle.rl_base.specs.declared.place.Place.TheVariants as place
use Rattle.rl_base.specs.Place.{place_key, is_no_later, IsNoLater}

-- a key is not after itself
pub is_no_later-same : (xs : List ℕ) → is_no_later xs xs ≡ true
is_no_later-same [] = refl
is_no_later-same (x ∷ xs) = or_right (ltb x x) _ (and_from (eqb x x) _ (eq-eqb x x refl) (is_no_later-same xs))

-- a place is not after itself
pub IsNoLater-same : (p : Place) → IsNoLater p p
IsNoLater-same p = is_no_later-same (place_key p)

-- a key that isn't after one that isn't after a third isn't after the third
pub is_no_later-trans : (xs ys zs : List ℕ) → is_no_later xs ys ≡ true → is_no_later ys zs ≡ true → is_no_later xs zs ≡ true
is_no_later-trans [] ys zs a b = refl
is_no_later-trans (x ∷ xs) [] zs a b = absurd (false≢true a)
is_no_later-trans (x ∷ xs) (y ∷ ys) [] a b = absurd (false≢true b)
is_no_later-trans (x ∷ xs) (y ∷ ys) (z ∷ zs) a b =
    heads x y z (is_no_later xs ys) (is_no_later ys zs) (is_no_later xs zs) (is_no_later-trans xs ys zs) a b
  where
    heads : (x y z : ℕ) (s t u : Bool) → (s ≡ true → t ≡ true → u ≡ true) → (ltb x y || (eqb x y && s)) ≡ true → (ltb y z || (eqb y z && t)) ≡ true
        → (ltb x z || (eqb x z && u)) ≡ true
    heads x y z s t u rest a b = grind (arith, nat_tests)

-- of two keys neither of which is after the other, both are the same
is_no_later-antisymmetric : (xs ys : List ℕ) → is_no_later xs ys ≡ true → is_no_later ys xs ≡ true → xs ≡ ys
is_no_later-antisymmetric [] [] a b = refl
is_no_later-antisymmetric [] (y ∷ ys) a b = absurd (false≢true b)
is_no_later-antisymmetric (x ∷ xs) [] a b = absurd (false≢true a)
is_no_later-antisymmetric (x ∷ xs) (y ∷ ys) a b =
    let p = heads_same x y (is_no_later xs ys) (is_no_later ys xs) a b in
    ap₂ (λ (n : ℕ) (ns : List ℕ). n ∷ ns) p.0 (is_no_later-antisymmetric xs ys p.1 p.2)
  where
    heads_same : (x y : ℕ) (s t : Bool) → (ltb x y || (eqb x y && s)) ≡ true → (ltb y x || (eqb y x && t)) ≡ true → (x ≡ y) × (s ≡ true) × (t ≡ true)
    heads_same x y s t a b = grind (arith, nat_tests)

-- the place that has the key
place_of : List ℕ → Place
place_of [] = place.None
place_of (n ∷ []) =
    cond (eqb n 0) place.None
    (cond (eqb n 1) place.Top
    (cond (eqb n 2) place.Format
    (cond (eqb n 3) place.Segments (cond (eqb n 4) place.Segs (cond (eqb n 5) place.Boxes place.Trains)))))
place_of (n ∷ i ∷ []) =
    cond (eqb n 3) (place.Segment i)
    (cond (eqb n 4) (place.SegItem i)
    (cond (eqb n 5) (place.BoxItem i)
    (cond (eqb n 6) (place.TrainItem i)
    (cond (eqb n 7) (place.ScheduleLine i)
    (cond (eqb n 8) (place.ReportLine i) (cond (eqb n 9) (place.FateLine i) (place.Word i)))))))
place_of (n ∷ i ∷ m ∷ []) =
    cond (eqb n 4) (cond (eqb m 0) (place.SegName i) (place.SegEnds i))
    (cond (eqb n 5)
    (cond (eqb m 0) (place.BoxName i) (cond (eqb m 1) (place.BoxKind i) (cond (eqb m 2) (place.BoxArms i) (place.BoxSide i))))
    (cond (eqb m 0) (place.TrainName i) (place.TrainRoute i)))
place_of (n ∷ i ∷ m ∷ j ∷ rest) =
    cond (eqb n 4) (place.SegEnd i j) (cond (eqb n 5) (place.BoxArm i j) (place.RouteItem i j))

-- each place is the one that has its key
place_of-key : (p : Place) → place_of (place_key p) ≡ p
unfolding place_of
place_of-key place.None = refl
place_of-key place.Top = refl
place_of-key place.Format = refl
place_of-key place.Segments = refl
place_of-key (place.Segment i) = refl
place_of-key place.Segs = refl
place_of-key (place.SegItem i) = refl
place_of-key (place.SegName i) = refl
place_of-key (place.SegEnds i) = refl
place_of-key (place.SegEnd i j) = refl
place_of-key place.Boxes = refl
place_of-key (place.BoxItem i) = refl
place_of-key (place.BoxName i) = refl
place_of-key (place.BoxKind i) = refl
place_of-key (place.BoxArms i) = refl
place_of-key (place.BoxArm i j) = refl
place_of-key (place.BoxSide i) = refl
place_of-key place.Trains = refl
place_of-key (place.TrainItem i) = refl
place_of-key (place.TrainName i) = refl
place_of-key (place.TrainRoute i) = refl
place_of-key (place.RouteItem i j) = refl
place_of-key (place.ScheduleLine n) = refl
place_of-key (place.ReportLine n) = refl
place_of-key (place.FateLine n) = refl
place_of-key (place.Word n) = refl

-- two places neither of which is after the other are the same
pub IsNoLater-antisymmetric : (p q : Place) → IsNoLater p q → IsNoLater q p → p ≡ q
IsNoLater-antisymmetric p q a b =
    sym (place_of-key p) ∙ (ap place_of (is_no_later-antisymmetric (place_key p) (place_key q) a b) ∙ place_of-key q)

-- the order of two keys that differ in the last number alone
pub last_number : (i j k : ℕ) → j < k → (ltb i i || (eqb i i && (ltb j k || (eqb j k && true)))) ≡ true
last_number i j k l = grind (arith, nat_tests)
