-- The arms that name a segment, as ends in the order of boxes and arms.
use Rattle.std.proofs.Common.{◌≡◌, ℕ, zero, suc, ◌+◌, ◌<◌, Bool, true, false, cond, List, [], ◌∷◌, ◌++◌, length, slice_get, slice_index_or, bytes_eq, Some, ◌⊎◌, inl, inr, ⊎_elim, refl, sym, ap, ap₂, ◌∙◌, subst, arith}
use Rattle.std.proofs.lemmas.Option.{none-some, same_Some}
use Rattle.rl_base.specs.declared.draft.DraftBox.{DraftBox}
use Rattle.rl_model.specs.declared.network.SegmentEnd.{SegmentEnd}
use Rattle.rl_drafts.specs.Drafts.{end_at, ends_in_box, ends_from}
use Rattle.rl_drafts.proofs.Numbers.{AreDistinct, same_from_bytes_eq, bytes_eq_from_same}

-- the end is one of these
abbrev pub IsMember : SegmentEnd → List SegmentEnd → Type 0
IsMember e [] = ⊥
IsMember e (x ∷ xs) = (e ≡ x) ⊎ IsMember e xs

-- a member of the first list is one of both together
IsMember-left : (e : SegmentEnd) (xs ys : List SegmentEnd) → IsMember e xs → IsMember e (xs ++ ys)
IsMember-left e [] ys h = absurd h
IsMember-left e (x ∷ xs) ys (inl h) = inl h
IsMember-left e (x ∷ xs) ys (inr h) = inr (IsMember-left e xs ys h)

-- and so is a member of the second
IsMember-right : (e : SegmentEnd) (xs ys : List SegmentEnd) → IsMember e ys → IsMember e (xs ++ ys)
IsMember-right e [] ys h = h
IsMember-right e (x ∷ xs) ys h = inr (IsMember-right e xs ys h)

-- and there is no other
IsMember-cases : (e : SegmentEnd) (xs ys : List SegmentEnd) → IsMember e (xs ++ ys) → IsMember e xs ⊎ IsMember e ys
IsMember-cases e [] ys h = inr h
IsMember-cases e (x ∷ xs) ys (inl h) = inl (inl h)
IsMember-cases e (x ∷ xs) ys (inr h) = ⊎_elim (λ a. inl (inr a)) (λ b. inr b) (IsMember-cases e xs ys h)

-- each end is at a box with a lower number than those after it
abbrev pub AreRising : List SegmentEnd → Type 0
AreRising [] = Unit {0}
AreRising (x ∷ xs) = ((e : SegmentEnd) → IsMember e xs → x.at.0 < e.at.0) × AreRising xs

-- rising ends and then rising ends at boxes with higher numbers rise
AreRising-append : (xs ys : List SegmentEnd) → AreRising xs → AreRising ys → ((x y : SegmentEnd) → IsMember x xs → IsMember y ys → x.at.0 < y.at.0)
    → AreRising (xs ++ ys)
AreRising-append [] ys a b before = b
AreRising-append (x ∷ xs) ys a b before =
    (λ e h. ⊎_elim (a.0 e) (λ y. before x e (inl refl) y) (IsMember-cases e xs ys h), AreRising-append xs ys a.1 b (λ v w h k. before v w (inr h) k))

-- the end is arm i + place of box b, and the name stands there
record IsEndIn (b i : ℕ) (arms : List (List ℕ)) (name : List ℕ) (e : SegmentEnd) : Type 0 where
  place : ℕ
  at : e.at.0 ≡ b
  arm : e.arm.0 ≡ i + place
  item : slice_get arms place ≡ Some name

-- one arm further on
IsEndIn-more : (b i : ℕ) (arm : List ℕ) (arms : List (List ℕ)) (name : List ℕ) (e : SegmentEnd) → IsEndIn b (suc i) arms name e
    → IsEndIn b i (arm ∷ arms) name e
IsEndIn-more b i arm arms name e h =
    let k : e.arm.0 ≡ i + suc h.place = omega (arith, h.arm) in
    record { place = suc h.place; at = h.at; arm = k; item = h.item }

-- an end that is listed for a box is one
ends_in_box-sound : (b i : ℕ) (arms : List (List ℕ)) (name : List ℕ) (e : SegmentEnd) → IsMember e (ends_in_box b i arms name) → IsEndIn b i arms name e
ends_in_box-sound b i [] name e h = absurd h
ends_in_box-sound b i (arm ∷ arms) name e h = at (bytes_eq arm name) refl h (ends_in_box-sound b (suc i) arms name e)
  where
    at : (t : Bool) → bytes_eq arm name ≡ t → IsMember e (cond t (end_at b i ∷ ends_in_box b (suc i) arms name) (ends_in_box b (suc i) arms name))
        → (IsMember e (ends_in_box b (suc i) arms name) → IsEndIn b (suc i) arms name e) → IsEndIn b i (arm ∷ arms) name e
    at true t (inl h) rest =
        let k : e.arm.0 ≡ i + 0 = omega (arith, ap (λ (x : SegmentEnd). x.arm.0) h) in
        record {
          place = 0;
          at = ap (λ (x : SegmentEnd). x.at.0) h;
          arm = k;
          item = ap (λ (x : List ℕ). Some x) (same_from_bytes_eq arm name t);
        }
    at true t (inr h) rest = IsEndIn-more b i arm arms name e (rest h)
    at false t h rest = IsEndIn-more b i arm arms name e (rest h)

-- an end has its two numbers
end_is : (e : SegmentEnd) (b i : ℕ) → e.at.0 ≡ b → e.arm.0 ≡ i → e ≡ end_at b i
end_is e b i p q = ap₂ end_at p q

-- each arm of a box that has the name is listed
ends_in_box-complete : (b i : ℕ) (arms : List (List ℕ)) (name : List ℕ) (e : SegmentEnd) (place : ℕ) → e.at.0 ≡ b → e.arm.0 ≡ i + place
    → slice_get arms place ≡ Some name → IsMember e (ends_in_box b i arms name)
ends_in_box-complete b i [] name e place p q h = absurd (none-some name h)
ends_in_box-complete b i (arm ∷ arms) name e zero p q h =
    subst (λ (t : Bool). IsMember e (cond t (end_at b i ∷ ends_in_box b (suc i) arms name) (ends_in_box b (suc i) arms name)))
    (sym (bytes_eq_from_same arm name (same_Some arm name h))) (inl (end_is e b i p (omega (arith, q))))
ends_in_box-complete b i (arm ∷ arms) name e (suc place) p q h =
    at (bytes_eq arm name) (ends_in_box-complete b (suc i) arms name e place p (omega (arith, q)) h)
  where
    at : (t : Bool) → IsMember e (ends_in_box b (suc i) arms name)
        → IsMember e (cond t (end_at b i ∷ ends_in_box b (suc i) arms name) (ends_in_box b (suc i) arms name))
    at true h = inr h
    at false h = h

-- the rest of distinct names is distinct
AreDistinct-rest : (name : List ℕ) (names : List (List ℕ)) → AreDistinct (name ∷ names) → AreDistinct names
AreDistinct-rest name names h =
    record { same = λ i j n a b. let k : suc i ≡ suc j = h.same (suc i) (suc j) n a b in omega arith }

-- a box whose arms differ has at most one end
ends_in_box-rising : (b i : ℕ) (arms : List (List ℕ)) (name : List ℕ) → AreDistinct arms → AreRising (ends_in_box b i arms name)
ends_in_box-rising b i [] name d = tt
ends_in_box-rising b i (arm ∷ arms) name d =
    at (bytes_eq arm name) refl (ends_in_box-rising b (suc i) arms name (AreDistinct-rest arm arms d))
  where
    at : (t : Bool) → bytes_eq arm name ≡ t → AreRising (ends_in_box b (suc i) arms name)
        → AreRising (cond t (end_at b i ∷ ends_in_box b (suc i) arms name) (ends_in_box b (suc i) arms name))
    at true t h = (
      λ e m. let k = ends_in_box-sound b (suc i) arms name e m in
          let same : 0 ≡ suc k.place = d.same 0 (suc k.place) name (ap (λ (x : List ℕ). Some x) (same_from_bytes_eq arm name t)) k.item in
          absurd (omega arith),
      h,
    )
    at false t h = h

-- the end is an arm of one of the boxes, from number b on, and the name stands there
pub record IsEndFrom (b : ℕ) (boxes : List DraftBox) (name : List ℕ) (e : SegmentEnd) : Type 0 where
  pub place : ℕ
  pub item : DraftBox
  pub at : e.at.0 ≡ b + place
  pub box : slice_get boxes place ≡ Some item
  pub arm : slice_get item.arms e.arm.0 ≡ Some name

-- an end that is listed is one
pub ends_from-sound : (b : ℕ) (boxes : List DraftBox) (name : List ℕ) (e : SegmentEnd) → IsMember e (ends_from b boxes name) → IsEndFrom b boxes name e
ends_from-sound b [] name e h = absurd h
ends_from-sound b (x ∷ xs) name e h =
    ⊎_elim first (λ m. further (ends_from-sound (suc b) xs name e m)) (IsMember-cases e (ends_in_box b 0 x.arms name) (ends_from (suc b) xs name) h)
  where
    first : IsMember e (ends_in_box b 0 x.arms name) → IsEndFrom b (x ∷ xs) name e
    first m =
        let k = ends_in_box-sound b 0 x.arms name e m in
        let a : e.at.0 ≡ b + 0 = omega (arith, k.at) in
        let i : k.place ≡ e.arm.0 = omega (arith, k.arm) in
        record { place = 0; item = x; at = a; box = refl; arm = subst (λ (n : ℕ). slice_get x.arms n ≡ Some name) i k.item }

    further : IsEndFrom (suc b) xs name e → IsEndFrom b (x ∷ xs) name e
    further k =
        let a : e.at.0 ≡ b + suc k.place = omega (arith, k.at) in
        record { place = suc k.place; item = k.item; at = a; box = k.box; arm = k.arm }

-- each arm that has the name is listed
pub ends_from-complete : (b : ℕ) (boxes : List DraftBox) (name : List ℕ) (e : SegmentEnd) (place : ℕ) (item : DraftBox) → e.at.0 ≡ b + place
    → slice_get boxes place ≡ Some item → slice_get item.arms e.arm.0 ≡ Some name → IsMember e (ends_from b boxes name)
ends_from-complete b [] name e place item p q h = absurd (none-some item q)
ends_from-complete b (x ∷ xs) name e zero item p q h =
    IsMember-left e (ends_in_box b 0 x.arms name) (ends_from (suc b) xs name)
    (ends_in_box-complete b 0 x.arms name e e.arm.0 (omega (arith, p)) (omega arith) (ap (λ (w : DraftBox). slice_get w.arms e.arm.0) (same_Some x item q) ∙ h))
ends_from-complete b (x ∷ xs) name e (suc place) item p q h =
    IsMember-right e (ends_in_box b 0 x.arms name) (ends_from (suc b) xs name)
    (ends_from-complete (suc b) xs name e place item (omega (arith, p)) q h)

-- the ends of boxes whose arms differ rise
pub ends_from-rising : (b : ℕ) (boxes : List DraftBox) (name : List ℕ) → ((k : ℕ) (x : DraftBox) → slice_get boxes k ≡ Some x → AreDistinct x.arms)
    → AreRising (ends_from b boxes name)
ends_from-rising b [] name d = tt
ends_from-rising b (x ∷ xs) name d =
    AreRising-append (ends_in_box b 0 x.arms name) (ends_from (suc b) xs name) (ends_in_box-rising b 0 x.arms name (d 0 x refl))
    (ends_from-rising (suc b) xs name (λ k y e. d (suc k) y e))
    (λ v w m n. let p = (ends_in_box-sound b 0 x.arms name v m).at in let q = (ends_from-sound (suc b) xs name w n).at in omega (arith, p, q))

-- a list of two ends
pub two_ends : (xs : List SegmentEnd) (d : SegmentEnd) → length xs ≡ 2 → xs ≡ slice_index_or xs 0 d ∷ slice_index_or xs 1 d ∷ []
two_ends [] d e = absurd (omega (arith, e))
two_ends (x ∷ []) d e = absurd (omega (arith, e))
two_ends (x ∷ y ∷ []) d e = refl
two_ends (x ∷ y ∷ z ∷ xs) d e = absurd (omega (arith, e))
